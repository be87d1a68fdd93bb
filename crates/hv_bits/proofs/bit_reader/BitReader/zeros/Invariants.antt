use Rattle.std.proofs.Common.{◌≡◌, ◌+◌}
use Rattle.spec_bits.specs.ExpGolomb.{leading_zero_bits}
use Rattle.hv_bits.proofs.bit_reader.BitReader.zeros.Given as goal

-- the zeros so far and those to come are all
abbrev pub invariant-loop-count : goal.invariant-loop-count
invariant-loop-count l = l.count + leading_zero_bits l.ahead ≡ leading_zero_bits l.fn.self
