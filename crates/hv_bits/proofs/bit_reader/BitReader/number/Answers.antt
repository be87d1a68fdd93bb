use Rattle.std.proofs.Common.{◌∙◌}
use Rattle.spec_bits.proofs.Numbers.{bool_byte-digit}
use Rattle.hv_bits.proofs.Reading.{ReadsOn-bit}
use Rattle.hv_bits.proofs.bit_reader.BitReader.number.Goals as goal

pub loop-preserved : goal.loop-preserved
loop-preserved c =
    ReadsOn-bit c.loop.value c.args.n c.loop.counter _ c.loop.self c.args.self.now c.bit.result c.bit.new.self
    c.from.result (c.from.ensures ∙ bool_byte-digit c.bit.result) c.loop-test.true c.bit.ensures c.loop.invariant
