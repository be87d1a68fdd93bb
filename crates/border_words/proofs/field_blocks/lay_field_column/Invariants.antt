use Rattle.std.proofs.Common.{◌≡◌, ◌≢◌, ℕ, ◌+◌, ◌*◌, ◌<◌}
use Rattle.picture_buffer.specs.Motion.{motions_of}
use Rattle.row_borders.specs.Borders.{block_beneath, with_beneath}
use Rattle.border_words.proofs.field_blocks.lay_field_column.Given as goal

abbrev pub invariant-loop-row : goal.invariant-loop-row
invariant-loop-row l = record {
  blocks : (r : ℕ) → r < l.row → block_beneath l.border l.column r ≡ motions_of l.field l.x (l.y + 4 * r);
  others : (c r : ℕ) → c ≢ l.column → block_beneath l.border c r ≡ block_beneath l.fn.border c r;
  same : l.border ≡ with_beneath l.fn.border l.border.beneath;
}
