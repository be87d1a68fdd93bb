use Rattle.std.proofs.Common.{ap, ◌∙◌}
use Rattle.picture_buffer.specs.Planes.{PictureSamples, samples_of}
use Rattle.row_borders.specs.Strips.{sample_along}
use Rattle.row_borders.proofs.Kept.{all_kept}
use Rattle.row_borders.proofs.keep.keep_column.Goals as goal

pub returns-clause-samples : goal.returns-clause-samples
returns-clause-samples c = λ i k.
    ap (λ (s : PictureSamples). samples_of s i k 0) c.keep_places.ensures.samples
    ∙ all_kept c.args.side c.args.built.now.samples (sample_along c.args.left.now)
    (sample_along c.keep_samples.new.left) (sample_along c.keep_samples-2.new.left)
    (sample_along c.keep_samples-3.new.left) c.requires.some c.keep_samples.ensures.samples
    c.keep_samples-2.ensures.samples c.keep_samples-3.ensures.samples i k
