use Rattle.std.proofs.Common.{◌≡◌, ◌^◌, ◌<◌, drop}
use Rattle.spec_bits.specs.Bits.{number_after, number_of}
use Rattle.spec_bits.proofs.plain.number.Given as goal

-- the value so far and the bits to come spell the whole
abbrev pub invariant-loop-bit : goal.invariant-loop-bit
invariant-loop-bit l = record {
  told : number_after l.value (drop l.bit-index l.bits) ≡ number_of l.bits;
  small : l.value < 2 ^ l.bit-index;
}
