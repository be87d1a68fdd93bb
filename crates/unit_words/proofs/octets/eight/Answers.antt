use Rattle.std.proofs.Common.{◌+◌, arith, ◌∙◌, slice_index}
use Rattle.std.proofs.lemmas.Simd.{get_or-chunk}
use Rattle.unit_words.proofs.WordBytes.{bytes_joined}
use Rattle.unit_words.proofs.octets.eight.Goals as goal

pub bytes_of-requires-clause-depth : goal.bytes_of-requires-clause-depth
bytes_of-requires-clause-depth c i lt =
    let e = get_or-chunk c.args.first 8 c.args.samples.now i 0 lt in
    let d = c.requires.depth (c.args.first + i) in
    omega (arith, e, d)

pub returns : goal.returns
returns c = c.from_le_bytes.ensures
    ∙ bytes_joined (λ i. slice_index c.bytes_of.result i) (λ i. slice_index c.args.samples.now (c.args.first + i))
    (λ i lt. c.bytes_of.ensures i lt ∙ get_or-chunk c.args.first 8 c.args.samples.now i 0 lt)
