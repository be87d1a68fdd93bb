use Rattle.std.proofs.Common.{ℕ, ℤ, pos, get_or, ◌%◌, ◌<◌, ap, ◌∙◌, arith, rules}
use Rattle.std.proofs.lemmas.Int.{to_z-of_z}
use mir.Syntax.{w16}
use Rattle.spec_sample_adaptive_offset.specs.Offsets.{band_index, moved, offset_value}
use Rattle.sao_filter.proofs.Laid.{band_again}
use Rattle.sao_filter.proofs.changes.band_moved.Goals as goal

pub returns : goal.returns
returns c = λ position offsets table.
    let below : c.from.result % 32 < 32 = omega arith in
    c.moved.ensures
    ∙ ap (λ (z : ℤ). moved c.args.depth c.args.sample z)
    (to_z-of_z w16 (get_or c.args.table.now (c.from.result % 32) (pos 0)) (search rules)
    ∙ table (c.from.result % 32) below
    ∙ ap (λ (k : ℕ). offset_value c.args.depth offsets k) (band_again position c.from.result)
    ∙ ap (λ (k : ℕ). offset_value c.args.depth offsets (band_index position k)) c.from.ensures)
