use Rattle.std.proofs.Common.{rules, refl}
use Rattle.cabac_engine.proofs.Bypasses.{many, spelled_by}
use Rattle.cabac_engine.proofs.register.Register.bins_ahead.Goals as goal

pub overflow_cast-result : goal.overflow_cast-result
overflow_cast-result c =
    let m = many c.self.inside.value c.self.inside.held c.self.inside.next c.args.n c.args.range c.args.range
    c.self.inside.bytes.now c.args.self.now c.self.view_is refl c.self.invariant c.requires.held c.requires.few
    c.requires.live in
    let fits = m.fits in rw c.quotient.ensures (search rules)

pub returns-clause-value : goal.returns-clause-value
returns-clause-value c =
    let m = many c.self.inside.value c.self.inside.held c.self.inside.next c.args.n c.args.range c.args.range
    c.self.inside.bytes.now c.args.self.now c.self.view_is refl c.self.invariant c.requires.held c.requires.few
    c.requires.live in
    rw c.quotient.ensures (spelled_by _ _ _ _ m.told)

pub returns-clause-small : goal.returns-clause-small
returns-clause-small c =
    let m = many c.self.inside.value c.self.inside.held c.self.inside.next c.args.n c.args.range c.args.range
    c.self.inside.bytes.now c.args.self.now c.self.view_is refl c.self.invariant c.requires.held c.requires.few
    c.requires.live in
    rw c.quotient.ensures m.small
