use Rattle.std.proofs.Common.{ℕ, ◌-◌, ◌/◌, ◌%◌, Bool, zero-add}
use Rattle.std.specs.Prelude.{slice_index}
use Rattle.std.proofs.lemmas.List.FromFn.{map-range_with_len_more}
use Rattle.spec_bits.specs.Bits.{bit_of}
use Rattle.spec_bits.proofs.plain.bits_of.Goals as goal

pub loop-i-preserved : goal.loop-i-preserved
loop-i-preserved c =
    let f : ℕ → Bool = λ i. bit_of (slice_index c.args.bytes.now (i / 8)) (7 - i % 8) in
    let more = map-range_with_len_more f 0 c.loop-i.i c.loop-i.i (zero-add c.loop-i.i) in
    cc (more, c.in_ok-push.ensures.items)
