use Rattle.std.proofs.Common.{◌≡◌, ◌-◌, ◌/◌, ◌%◌, map}
use Rattle.std.specs.Prelude.{slice_index}
use Rattle.std.specs.List.{range_with_len}
use Rattle.spec_bits.specs.Bits.{bit_of}
use Rattle.spec_bits.proofs.plain.bits_of.Given as goal

abbrev pub invariant-loop-i : goal.invariant-loop-i
invariant-loop-i l = l.found.items ≡ map (λ i. bit_of (slice_index l.bytes (i / 8)) (7 - i % 8)) (range_with_len 0 l.i)
