use Rattle.std.proofs.Common.{◌∙◌}
use Rattle.sample_words.specs.Sizes.{samples_a_word}
use Rattle.sample_words.specs.Values.{sample_bits}
use Rattle.unit_words.proofs.Parts.{line_is}
use Rattle.unit_words.proofs.lines.pack_line.Goals as goal

pub returns-clause-line : goal.returns-clause-line
returns-clause-line c = λ f are k below.
    c.pack_by_depth.ensures.value k below
    ∙ line_is (sample_bits c.args.layout.now) (samples_a_word c.args.layout.now) c.args.samples.now f are k
