use Rattle.std.proofs.Common.{◌≡◌, ℕ, ◌+◌, ◌-◌, ◌==◌, ◌&&◌, cond, nat_le, nat_lt, false, slice_index_or}
use Rattle.place_grid.specs.Cells.{HasCells, cell}
use Rattle.picture_filters.specs.Places.{first_read}
use Rattle.picture_filters.proofs.place_field.put_kept.Given as goal

abbrev pub invariant-loop-k : goal.invariant-loop-k
invariant-loop-k l = record {
  sides : HasCells l.flags l.fn.flags.across l.fn.flags.down;
  flags : (i j : ℕ)
      → cell false l.flags i j
      ≡ cond (j == l.y && (nat_le l.x i && nat_lt i (l.x + l.k))) (slice_index_or l.read (i - l.x) first_read).kept
      (cell false l.fn.flags i j);
}
