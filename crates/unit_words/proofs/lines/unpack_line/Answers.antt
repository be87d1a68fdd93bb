use Rattle.std.proofs.Common.{◌^◌, ℕ, length, ◌∙◌, pow_pos}
use Rattle.sample_words.specs.Contents.{there}
use Rattle.sample_words.specs.Sizes.{samples_a_word}
use Rattle.sample_words.specs.Values.{sample_bits}
use Rattle.unit_words.proofs.Again.{some_a_word, taken_again}
use Rattle.unit_words.proofs.Parts.{there_below, there_is}
use Rattle.unit_words.proofs.lines.unpack_line.Goals as goal

pub returns-clause-again : goal.returns-clause-again
returns-clause-again c = λ f fits are i below.
    let s = c.args.layout.now in
    let count : ℕ = length c.args.samples.now in
    taken_again (sample_bits s) (samples_a_word s) c.args.words.now c.unpack_by_depth.new.samples count
    (some_a_word s.deep) c.requires c.unpack_by_depth.ensures.value (there count f)
    (there_below count (2 ^ sample_bits s) f (pow_pos (sample_bits s)) fits) are i below
    ∙ there_is count f i below
