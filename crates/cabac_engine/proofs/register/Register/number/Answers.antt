use Rattle.std.proofs.Common.{length, arith, ap}
use Rattle.spec_bits.proofs.Places.{length-bits}
use Rattle.cabac_engine.specs.Ahead.{Ahead}
use Rattle.cabac_engine.proofs.register.Register.number.Goals as goal

pub number_at-requires-clause-inside : goal.number_at-requires-clause-inside
number_at-requires-clause-inside c =
    let all = ap (λ (a : Ahead). length a.bits) c.self.view_is in
    omega (arith, all, length-bits c.self.inside.bytes.now, c.at.ensures.value)
