use Rattle.std.proofs.Common.{◌+◌, ◌<◌, ◌≤◌, arith, lit<}
use Rattle.std.proofs.Math.Nat.{pow-le-pow_right}
use Rattle.cabac_contexts.proofs.bin_reader.BinReader.exp_golomb.Goals as goal

pub overflow_sub-result : goal.overflow_sub-result
overflow_sub-result c =
    let two : 0 < 2 = lit< tt in
    let more : c.args.k ≤ c.args.k + c.in_ok-n.n = omega arith in
    omega (arith, c.power.ensures.value, c.power-2.ensures.value, pow-le-pow_right two more)
