use Rattle.std.proofs.Common.{arith}
use Rattle.spec_cabac.proofs.Renormalization.{Doubled-range, leading_zeros-doublings}
use Rattle.cabac_engine.proofs.interval.doublings.Goals as goal

pub overflow_sub-result : goal.overflow_sub-result
overflow_sub-result c = let is = leading_zeros-doublings c.args.range c.requires.low c.requires.high in omega arith

pub returns : goal.returns
returns c =
    let is = leading_zeros-doublings c.args.range c.requires.low c.requires.high in
    let doubled = Doubled-range c.args.range c.requires.low c.requires.high in
    record { value = omega arith; few = omega arith }
