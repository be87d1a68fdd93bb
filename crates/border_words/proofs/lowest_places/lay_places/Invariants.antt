use Rattle.std.proofs.Common.{◌≡◌, ℕ, ◌+◌, ◌-◌, ◌*◌}
use Rattle.spec_flights.specs.SpecDecodedPictures.{DecodedUnits}
use Rattle.spec_picture_trees.specs.Places.{unit_places}
use Rattle.spec_picture_trees.specs.Shapes.{picture_shape}
use Rattle.row_borders.specs.Borders.{with_above}
use Rattle.row_borders.specs.Next.{HasPlaces}
use Rattle.row_borders.specs.Strips.{with_places}
use Rattle.border_words.specs.Kept.{IsOfSegment}
use Rattle.border_words.specs.Laid.{AreOfPlaces}
use Rattle.border_words.proofs.lowest_places.lay_places.Given as goal

abbrev pub invariant-loop-i : goal.invariant-loop-i
invariant-loop-i l = record {
  slice : IsOfSegment l.plan l.unit.address l.segment;
  places : (units : DecodedUnits) (row : ℕ)
      → AreOfPlaces l.plan l.unit.address units l.first (unit_places (picture_shape l.plan.sps l.plan.pps) * row - 1)
      l.above.count l.vectors l.above.modes
      → HasPlaces (picture_shape l.plan.sps l.plan.pps) row l.fn.border.above units l.first
      → HasPlaces (picture_shape l.plan.sps l.plan.pps) row l.border.above units (l.first + l.i);
  same : l.border
      ≡ with_above l.fn.border (with_places l.fn.border.above l.border.above.motion l.border.above.coded);
}
