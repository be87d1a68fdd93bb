use Rattle.std.proofs.Common.{◌≡◌, ℕ, ◌+◌, ◌-◌, ◌&&◌, cond, nat_le, nat_lt}
use Rattle.picture_filters.specs.Places.{HasPlaces, places_of}
use Rattle.picture_filters.specs.Filtering.{filter_place, read_place}
use Rattle.picture_filters.proofs.layers.lay_places.Given as goal

abbrev pub invariant-loop-row : goal.invariant-loop-row
invariant-loop-row l = record {
  sides : HasPlaces l.field l.unit.layout.across l.unit.layout.down;
  places : (i j : ℕ)
      → places_of l.field i j
      ≡ cond ((nat_le l.block.y j && nat_lt j (l.block.y + l.row))
      && (nat_le l.block.x i && nat_lt i (l.block.x + l.block.columns)))
      (filter_place l.slice (read_place l.read (i - l.block.x) (j - l.block.y))) (places_of l.fn.field i j);
}
