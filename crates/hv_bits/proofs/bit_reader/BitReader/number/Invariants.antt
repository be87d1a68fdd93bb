use Rattle.std.proofs.Common.{take}
use Rattle.spec_bits.specs.Bits.{number_of}
use Rattle.hv_bits.proofs.Reading.{ReadsOn}
use Rattle.hv_bits.proofs.bit_reader.BitReader.number.Given as goal

abbrev pub invariant-loop : goal.invariant-loop
invariant-loop l = ReadsOn l.value l.n l.counter (number_of (take l.n l.fn.self)) l.self l.fn.self
