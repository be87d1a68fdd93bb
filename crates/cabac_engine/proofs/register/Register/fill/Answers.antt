use Rattle.std.proofs.Common.{length, arith, ap}
use Rattle.spec_bits.proofs.Places.{length-bits}
use Rattle.cabac_engine.specs.Ahead.{Ahead}
use Rattle.cabac_engine.proofs.register.Register.fill.Goals as goal

pub append-requires-clause-left : goal.append-requires-clause-left
append-requires-clause-left c =
    let kept = c.self.invariant in
    rw (← c.self.view_is) (omega (arith, length-bits c.self.inside.bytes.now, kept.behind))

pub loop-self-smaller : goal.loop-self-smaller
loop-self-smaller c =
    let held = ap (λ (a : Ahead). a.held) c.self.view_is in
    omega (arith, held, c.append.ensures.held)

pub returns-else-self-clause-enough : goal.returns-else-self-clause-enough
returns-else-self-clause-enough c = λ n few there.
    let held = ap (λ (a : Ahead). a.held) c.self.view_is in
    let at = ap (λ (a : Ahead). a.at) c.self.view_is in
    let all = ap (λ (a : Ahead). length a.bits) c.self.view_is in
    omega (
      arith,
      held,
      at,
      all,
      length-bits c.self.inside.bytes.now,
      c.self.invariant.behind,
      c.self.invariant.inside,
      c.loop-self.invariant.at,
      ap length c.loop-self.invariant.bits,
    )
