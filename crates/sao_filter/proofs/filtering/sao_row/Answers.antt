use Rattle.std.proofs.Common.{ℕ, ◌+◌, cond, ap, sym, ◌∙◌}
use Rattle.spec_sample_adaptive_offset.specs.Plane.{offset_sample}
use Rattle.spec_sample_adaptive_offset.proofs.Samples.{beside_alone}
use Rattle.sao_filter.specs.Row.{kept_at, plane_of, samples_of, top}
use Rattle.sao_filter.proofs.Picture.{agrees}
use Rattle.sao_filter.proofs.filtering.sao_row.Goals as goal

pub returns-clause-value : goal.returns-clause-value
unfolding offset_sample
returns-clause-value c = λ i j column line stood.
    let row = c.args.row.now in
    c.keep_samples.ensures i j column line
    ∙ ap (λ (v : ℕ). cond (kept_at row i (top row + j)) (samples_of row c.args.lines.now i (top row + j)) v)
    (c.filter_blocks.ensures i j column line stood)

pub returns-clause-picture : goal.returns-clause-picture
unfolding offset_sample
returns-clause-picture c = λ plane f is i j column line stood.
    let row = c.args.row.now in
    c.keep_samples.ensures i j column line
    ∙ ap (λ (v : ℕ). cond (kept_at row i (top row + j)) (samples_of row c.args.lines.now i (top row + j)) v)
    (c.filter_blocks.ensures i j column line stood)
    ∙ sym (beside_alone plane (plane_of row) f (samples_of row c.args.lines.now) i (top row + j)
    (agrees row c.args.lines.now plane f i j is c.requires.row column line))
