use Rattle.std.proofs.Common.{◌+◌, ◌-◌, ◌*◌, ◌^◌, take, drop, arith, ap, ◌∙◌}
use Rattle.spec_bits.specs.Bits.{number_of}
use Rattle.cabac_engine.specs.Ahead.{Ahead}
use Rattle.cabac_engine.proofs.Held.{lowered}
use Rattle.cabac_engine.proofs.register.Register.renormalize.Goals as goal

pub invariant_of-self : goal.invariant_of-self
invariant_of-self c =
    let held = ap (λ (a : Ahead). a.held) c.self.view_is in
    let offset = ap (λ (a : Ahead). a.offset) c.self.view_is in
    rw c.from.ensures
    (lowered c.self.inside.value c.self.inside.held c.self.inside.next c.args.n c.args.less c.self.inside.bytes.now
    c.self.invariant (omega (arith, held)) (omega (arith, offset)) (rw offset c.requires.small)).kept

pub returns-clause-offset : goal.returns-clause-offset
returns-clause-offset c =
    let held = ap (λ (a : Ahead). a.held) c.self.view_is in
    let offset = ap (λ (a : Ahead). a.offset) c.self.view_is in
    rw c.from.ensures
    ((lowered c.self.inside.value c.self.inside.held c.self.inside.next c.args.n c.args.less c.self.inside.bytes.now
    c.self.invariant (omega (arith, held)) (omega (arith, offset)) (rw offset c.requires.small)).top
    ∙ ap (λ (a : Ahead). (a.offset - c.args.less) * 2 ^ c.args.n + number_of (take c.args.n (drop a.at a.bits)))
    c.self.view_is)
