use Rattle.std.proofs.Common.{Some, sym, ap, ◌∙◌}
use Rattle.cabac_engine.proofs.Bypasses.{many, taken}
use Rattle.cabac_engine.proofs.register.Register.take_bins.Goals as goal

pub overflow_sub-self-2 : goal.overflow_sub-self-2
overflow_sub-self-2 c =
    let m = many c.self.inside.value c.self.inside.held c.self.inside.next c.args.n c.args.range c.from-range.result
    c.self.inside.bytes.now c.args.self.now c.self.view_is c.from-range.ensures c.self.invariant c.requires.held
    c.requires.few c.requires.live in
    let t = taken c.self.inside.value c.self.inside.held c.self.inside.next c.args.n c.args.range c.from-range.result
    c.from-bins.result c.self.inside.bytes.now c.args.self.now m
    (c.requires.spelled ∙ ap Some (sym c.from-bins.ensures)) in
    t.less

pub invariant_of-self : goal.invariant_of-self
invariant_of-self c =
    let m = many c.self.inside.value c.self.inside.held c.self.inside.next c.args.n c.args.range c.from-range.result
    c.self.inside.bytes.now c.args.self.now c.self.view_is c.from-range.ensures c.self.invariant c.requires.held
    c.requires.few c.requires.live in
    let t = taken c.self.inside.value c.self.inside.held c.self.inside.next c.args.n c.args.range c.from-range.result
    c.from-bins.result c.self.inside.bytes.now c.args.self.now m
    (c.requires.spelled ∙ ap Some (sym c.from-bins.ensures)) in
    t.kept

pub returns-clause-value : goal.returns-clause-value
returns-clause-value c =
    let m = many c.self.inside.value c.self.inside.held c.self.inside.next c.args.n c.args.range c.from-range.result
    c.self.inside.bytes.now c.args.self.now c.self.view_is c.from-range.ensures c.self.invariant c.requires.held
    c.requires.few c.requires.live in
    let t = taken c.self.inside.value c.self.inside.held c.self.inside.next c.args.n c.args.range c.from-range.result
    c.from-bins.result c.self.inside.bytes.now c.args.self.now m
    (c.requires.spelled ∙ ap Some (sym c.from-bins.ensures)) in
    rw (← c.from-bins.ensures) t.told

pub returns-clause-live : goal.returns-clause-live
returns-clause-live c =
    let m = many c.self.inside.value c.self.inside.held c.self.inside.next c.args.n c.args.range c.from-range.result
    c.self.inside.bytes.now c.args.self.now c.self.view_is c.from-range.ensures c.self.invariant c.requires.held
    c.requires.few c.requires.live in
    let t = taken c.self.inside.value c.self.inside.held c.self.inside.next c.args.n c.args.range c.from-range.result
    c.from-bins.result c.self.inside.bytes.now c.args.self.now m
    (c.requires.spelled ∙ ap Some (sym c.from-bins.ensures)) in
    t.live
