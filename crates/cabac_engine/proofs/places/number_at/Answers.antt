use Rattle.std.proofs.Common.{◌+◌, ◌∙◌, ap}
use Rattle.spec_bits.proofs.Numbers.{bool_byte-digit}
use Rattle.cabac_engine.proofs.Reading.{ReadsOn-bit}
use Rattle.cabac_engine.proofs.places.number_at.Goals as goal

pub loop-i-preserved : goal.loop-i-preserved
loop-i-preserved c =
    ReadsOn-bit c.loop-i.value c.args.n c.loop-i.i c.args.at _ c.args.bytes.now c.bit_at.result c.from-in-loop-i.result
    (ap (λ k. c.args.at + k) c.from.ensures)
    c.bit_at.ensures.value (c.from-in-loop-i.ensures ∙ bool_byte-digit c.bit_at.result) c.loop-i-test.true
    c.requires.inside c.loop-i.invariant
