use Rattle.std.proofs.Common.{◌≡◌, ◌≢◌, ℕ, ◌*◌, ◌<◌}
use Rattle.progress_words.specs.Passes.{Knows, view}
use Rattle.row_borders.specs.Borders.{block_beneath, with_beneath}
use Rattle.border_words.specs.Beneath.{motion_in_unit}
use Rattle.border_words.specs.Kept.{IsOfSegment}
use Rattle.border_words.proofs.unit_blocks.lay_block_column.Given as goal

abbrev pub invariant-loop-row : goal.invariant-loop-row
invariant-loop-row l = record {
  blocks : (r : ℕ) → r < l.row
      → block_beneath l.border l.column r ≡ motion_in_unit l.board.flight l.blocks l.i (4 * r);
  others : (c r : ℕ) → c ≢ l.column → block_beneath l.border c r ≡ block_beneath l.fn.border c r;
  same : l.border ≡ with_beneath l.fn.border l.border.beneath;
  slice : IsOfSegment l.blocks.plan.now l.blocks.unit.address l.segment;
  knows : Knows l.fn.pass l.pass (view l.fn.pass);
}
