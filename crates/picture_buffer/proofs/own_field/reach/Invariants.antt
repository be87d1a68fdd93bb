use Rattle.std.proofs.Common.{◌≡◌, ℕ, ◌-◌, length, slice_index_or, vec_capacity}
use Rattle.picture_buffer.specs.Packed.{no_own}
use Rattle.picture_buffer.proofs.own_field.reach.Given as goal

abbrev pub invariant-loop-cells : goal.invariant-loop-cells
invariant-loop-cells l = record {
  capacity : vec_capacity l.cells ≡ vec_capacity l.fn.cells;
  same : (q : ℕ) → slice_index_or l.cells.items q no_own ≡ slice_index_or l.fn.cells.items q no_own;
}

abbrev pub decreases-loop-cells : goal.decreases-loop-cells
decreases-loop-cells l = l.end - length l.cells.items
