-- What the loop filters ask of the places and the units of a picture, by what the words of its coding tree units have
-- (8.7.2, 8.7.3).
use Rattle.std.specs.Prelude.{ℕ, ◌-ℤ◌, pos, Option, Some, None, slice_get}
use Rattle.ctu_records.specs.declared.offset.Sao.{Sao}
use Rattle.plan_types.specs.declared.picture_plan.PicturePlan.{PicturePlan}
use Rattle.plan_types.specs.declared.segment_plan.SegmentPlan.{SegmentPlan}
use Rattle.spec_boundary_strengths.specs.declared.place.UnitPlace.{UnitPlace}
use Rattle.spec_deblocking.specs.declared.place.Place.{Place}
use Rattle.spec_picture_filters.specs.Data.{no_place, no_unit}
use Rattle.spec_picture_filters.specs.Units.{place_of, unit_read}
use Rattle.spec_picture_trees.specs.Shapes.{qp_bd_offset}
use Rattle.spec_sample_adaptive_offset.specs.declared.unit.OffsetUnit.{OffsetUnit}
use Rattle.sample_words.specs.declared.modes.PlaceModes.{PlaceModes}

-- a place of a unit by its modes and QpBdOffsetY: its strengths, whether it is coded and whether its samples stay, and
-- QpY
abbrev pub known_place : ℕ → PlaceModes → UnitPlace
known_place offset modes = record {
  left_strength = modes.left_strength;
  top_strength = modes.top_strength;
  coded = modes.coded;
  qp_y = pos modes.side.qp -ℤ pos offset;
  kept = modes.kept;
}

-- a place of a slice segment, where there is one
abbrev pub place_in : PicturePlan → PlaceModes → Option SegmentPlan → Place
place_in p modes None = no_place
place_in p modes (Some s) = place_of s.header.slice.deblocking (known_place (qp_bd_offset p.sps) modes)

-- what deblocking asks of a place, by its modes, which have the number of its slice segment
unfoldable pub filter_place : PicturePlan → PlaceModes → Place
filter_place p modes = place_in p modes (slice_get p.segments modes.segment)

-- a component of a unit of a slice segment, where there is one
abbrev pub unit_in : PicturePlan → Sao → ℕ → Option SegmentPlan → OffsetUnit
unit_in p sao c None = no_unit
unit_in p sao c (Some s) = unit_read p s sao c

-- what sample adaptive offset asks of a component of a unit of the slice segment with a number
unfoldable pub filter_unit : PicturePlan → ℕ → Sao → ℕ → OffsetUnit
filter_unit p segment sao c = unit_in p sao c (slice_get p.segments segment)
