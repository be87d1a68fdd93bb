use Rattle.std.proofs.Common.{◌≡◌, ℕ, ◌*◌, ◌<◌}
use Rattle.progress_words.specs.Passes.{Knows, view}
use Rattle.row_borders.specs.Borders.{with_beneath}
use Rattle.spec_picture_trees.specs.Places.{unit_places}
use Rattle.border_words.specs.Beneath.{HasColumn, motion_in_unit}
use Rattle.border_words.specs.Kept.{IsOfSegment}
use Rattle.border_words.proofs.unit_blocks.lay_unit_blocks.Given as goal

abbrev pub invariant-loop-column : goal.invariant-loop-column
invariant-loop-column l = record {
  columns : (c : ℕ) → c < l.column
      → HasColumn l.border (unit_places l.blocks.unit.layout) c
      (λ row. motion_in_unit l.board.flight l.blocks (4 * c) (4 * row));
  same : l.border ≡ with_beneath l.fn.border l.border.beneath;
  slice : IsOfSegment l.blocks.plan.now l.blocks.unit.address l.segment;
  knows : Knows l.fn.pass l.pass (view l.fn.pass);
}
