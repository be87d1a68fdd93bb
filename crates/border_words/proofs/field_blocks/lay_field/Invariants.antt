use Rattle.std.proofs.Common.{◌≡◌, ℕ, ◌+◌, ◌*◌, ◌<◌}
use Rattle.picture_buffer.specs.Motion.{motions_of}
use Rattle.row_borders.specs.Borders.{with_beneath}
use Rattle.border_words.specs.Beneath.{HasColumn}
use Rattle.border_words.proofs.field_blocks.lay_field.Given as goal

abbrev pub invariant-loop-column : goal.invariant-loop-column
invariant-loop-column l = record {
  columns : (c : ℕ) → c < l.column
      → HasColumn l.border l.side c (λ row. motions_of l.field (l.x + 4 * c) (l.y + 4 * row));
  same : l.border ≡ with_beneath l.fn.border l.border.beneath;
}
