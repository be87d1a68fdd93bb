use Rattle.std.proofs.Common.{◌≡◌, ◌+◌, drop}
use Rattle.spec_bits.specs.ExpGolomb.{leading_zero_bits}
use Rattle.spec_bits.proofs.exp_golomb.zeros_before_one.Given as goal

-- the zeros so far and those to come are all
abbrev pub invariant-loop-bit : goal.invariant-loop-bit
invariant-loop-bit l = record {
  count : l.zeros ≡ l.bit-index;
  told : l.zeros + leading_zero_bits (drop l.bit-index l.bits) ≡ leading_zero_bits l.bits;
}
