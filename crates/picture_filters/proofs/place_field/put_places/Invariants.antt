use Rattle.std.proofs.Common.{◌≡◌, ℕ, ◌+◌, ◌-◌, ◌==◌, ◌&&◌, cond, nat_le, nat_lt}
use Rattle.place_grid.specs.Cells.{HasCells, cell}
use Rattle.picture_filters.specs.Places.{first_held, held_row}
use Rattle.picture_filters.proofs.place_field.put_places.Given as goal

abbrev pub invariant-loop-k : goal.invariant-loop-k
invariant-loop-k l = record {
  sides : HasCells l.places l.fn.places.across l.fn.places.down;
  places : (i j : ℕ)
      → cell first_held l.places i j
      ≡ cond (j == l.y && (nat_le l.x i && nat_lt i (l.x + l.k))) (held_row l.read l.offsets (i - l.x))
      (cell first_held l.fn.places i j);
}
