use Rattle.std.proofs.Common.{arith}
use Rattle.spec_bits.proofs.Places.{length-bits}
use Rattle.cabac_engine.proofs.register.Register.held.Goals as goal

pub returns-clause-inside : goal.returns-clause-inside
returns-clause-inside c =
    let kept = c.self.invariant in
    rw (← c.self.view_is) (omega (arith, length-bits c.self.inside.bytes.now, kept.inside, kept.behind))
