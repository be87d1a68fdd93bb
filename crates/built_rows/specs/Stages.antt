-- What holds of a row's builder, and of the pass that it works with, between the stages of a coding tree unit's work.
use Rattle.std.specs.Prelude.{ℕ, ◌≡◌, ◌+◌, ◌-◌, ◌*◌, ◌%◌, ◌<◌, ◌≤◌, ◌==◌, true, Some, List, min, slice_get}
use Rattle.std.specs.Prelude.{if◌then◌else◌}
use Rattle.hv_base.specs.declared.line.Phase.TheVariants.{B, S}
use Rattle.header_types.specs.SequenceParameterSets.{width_in_ctbs}
use Rattle.plan_types.specs.declared.picture_plan.PicturePlan.{PicturePlan}
use Rattle.plan_types.specs.declared.segment_plan.SegmentPlan.{SegmentPlan}
use Rattle.ctu_motion.specs.Held.{held}
use Rattle.spec_slice_data.specs.Segment.{PictureShape, begins_row, has_stored}
use Rattle.spec_picture_trees.specs.Picture.{SegmentAt}
use Rattle.spec_picture_trees.specs.Places.{unit_places}
use Rattle.spec_picture_trees.specs.Shapes.{picture_shape, slice_start}
use Rattle.spec_known_units.specs.Known.{KnownUnit, contexts_behind, picture_segments, segment_having, units_known}
use Rattle.spec_picture_motion.specs.Derived.{collocated_motions, known_of_unit}
use Rattle.spec_picture_motion.specs.Slices.{collocated_entry}
use Rattle.spec_picture_build.specs.Format.{unit_format}
use Rattle.spec_picture_build.specs.References.{motions_of}
use Rattle.spec_reconstruction.specs.Sound.{IsFormat}
use Rattle.spec_decoded_pictures.specs.Decoded.{DecodedUnits}
use Rattle.border_words.specs.PictureBuild.{IsCommon}
use Rattle.border_words.specs.PictureFilters.{IsUnit}
use Rattle.board_core.specs.Needs.{collocated_of, read_needs, row_needs, unit_needs}
use Rattle.board_core.specs.Places.{line_of}
use Rattle.board_core.specs.Uses.{UnitUses}
use Rattle.spec_flights.specs.Pictures.{folded_at, pictures_before}
use Rattle.spec_flights.specs.Rows.{flight_rows}
use Rattle.row_waits.specs.RowTrees.{IsReadAs, IsReadKnown, OfSegment, StandsBefore, known_to}
use Rattle.border_words.specs.RowBorders.{Bordering, at_unit}
use Rattle.border_words.specs.RowBorders.{HoldsUnit as HoldsBuilt, IsAtLeft, IsBeneath, IsBeside, IsDerived}
use Rattle.border_words.specs.RowBorders.{tree_unit}
use Rattle.border_words.specs.RowBorders.{IsLaid}
use Rattle.progress_words.specs.declared.pass.Pass.{Pass}
use Rattle.progress_words.specs.declared.view.View.{View}
use Rattle.progress_words.specs.Passes.{IsPassOf, view}
use Rattle.progress_words.specs.Places.{Place}
use Rattle.progress_words.specs.Views.{seen_of}
use Rattle.line_words.specs.Places.{UnitAt}
use Rattle.border_words.specs.FlightFacts.{FlightFacts}
use Rattle.border_words.specs.FlightFacts.{flight_in}
use Rattle.done_units.specs.FlightWaits.{AreAllKnown, AreSeen, HasSameParts, HoldsUnit}
use Rattle.row_waits.specs.FlightWindows.{is_seen}
use Rattle.border_words.specs.declared.unit_above.UnitAbove.{UnitAbove}
use Rattle.border_words.specs.Units.{IsAboveOf}
use Rattle.row_waits.specs.declared.picture_view.PictureView.{PictureView}
use Rattle.built_rows.specs.declared.row_builder.RowBuilder.{RowBuilder}
use Rattle.row_waits.specs.Pictures.{IsUnitOf, address_in}
use Rattle.row_waits.specs.Seen.{HasSeenFlags}

-- the shape of a picture, and what its known units make of it
abbrev pub shape_of : PictureView → PictureShape
shape_of picture = picture_shape picture.plan.now.sps picture.plan.now.pps

abbrev pub units_in : FlightFacts → PictureView → DecodedUnits
units_in facts picture = folded_at (flight_in facts) picture.place

-- the unit in a column and a row of the picture, and the next one of a row
abbrev pub unit_in : PictureView → ℕ → ℕ → UnitAt
unit_in picture row x = record { sizes = picture.layout.now; line = line_of B picture.place row; unit = x }

abbrev pub next_of : UnitAt → UnitAt
next_of at = record { sizes = at.sizes; line = at.line; unit = at.unit + 1 }

-- what is kept of the words of the unit above the one in a column
abbrev pub above_of : RowBuilder → ℕ → UnitAbove
above_of b x = if x % 2 == 0 then b.even else b.odd

-- a builder may build rows of a picture, by what the pass has seen
pub record IsReadyFor {F : Type 0} (picture : PictureView) (v : View F) (b : RowBuilder) : Type 0 where
  pub across : b.border.unit.layout.across ≡ (shape_of picture).across
  pub rows : HasSeenFlags picture.layout.now v b.seen

-- a pass has gone on, and the builder may build with it
pub record GoesOn (board : Place FlightFacts) (picture : PictureView) (before after : Pass FlightFacts)
    (b : RowBuilder) : Type 0 where
  pub own : IsPassOf board after
  pub known : AreAllKnown board.flight (view after)
  pub ready : IsReadyFor picture (view after) b
  pub parts : HasSameParts (view before) (view after)
  pub more : (l : ℕ) → seen_of (view before) l ≤ seen_of (view after) l

-- a builder is at work on a unit of a picture, the next one of the line that the pass holds, of which no word is
-- written
pub record IsWorking (facts : FlightFacts) (picture : PictureView) (at : UnitAt) (v : View FlightFacts)
    (b : RowBuilder) : Type 0 where
  pub unit : IsUnitOf picture at
  pub holds : HoldsUnit v at
  pub written : v.written ≡ 0
  pub known : AreAllKnown facts v
  pub rows : HasSeenFlags picture.layout.now v b.seen
  pub plan : b.reader.segments.plan ≡ picture.plan.now
  pub layout : b.border.unit.layout ≡ shape_of picture
  pub common : IsCommon picture.plan.now.sps picture.plan.now.pps b.format
  pub depths : IsFormat b.format

-- contexts are those behind the second unit of the row above, where the unit at an address of a segment begins with
-- them
abbrev pub IsStored : PicturePlan → ℕ → List ℕ → SegmentAt → Type 0
IsStored p address stored at =
    begins_row at.picture address ≡ true → has_stored at.picture at.shape address ≡ true
    → stored ≡ contexts_behind (known_to p address (address - at.picture.width + 1))

-- on the left of the unit at an address, of whichever slice, a border has what units make of the picture
abbrev pub IsLeftOf : PictureShape → ℕ → Bordering → DecodedUnits → Type 0
IsLeftOf shape address border units =
    (slice : ℕ) → IsAtLeft (at_unit border (record { layout = shape; slice = slice; address = address })) units

-- before a unit is read: the reader stands before it; what stands above it is laid and kept, but before the first one
-- of its row, and what stands on its left
pub record StandsAt (facts : FlightFacts) (picture : PictureView) (at : UnitAt) (v : View FlightFacts)
    (b : RowBuilder) : Type 0 where
  pub working : IsWorking facts picture at v b
  pub reader : StandsBefore picture.plan.now (address_in picture.plan.now at) b.reader.reader b.reader.left
  pub stored : OfSegment picture.plan.now (address_in picture.plan.now at)
      (IsStored picture.plan.now (address_in picture.plan.now at) b.stored)
  pub laid : 0 < at.unit
      → IsLaid (shape_of picture) at.line.row b.border.above (units_in facts picture)
      (unit_places (shape_of picture) * (at.unit + 1))
  pub above : 0 < at.unit → 0 < at.line.row
      → IsAboveOf (flight_in facts) picture.place picture.plan.now (at.line.row - 1) at.unit (above_of b at.unit)
  pub left : IsLeftOf (shape_of picture) (address_in picture.plan.now at) b.border (units_in facts picture)

-- a unit is read: it is known as what was read, and the reader stands before the next one; what stands above it and
-- above the next one is laid, and what reading that asks for is kept
pub record HasRead (facts : FlightFacts) (picture : PictureView) (at : UnitAt) (v : View FlightFacts)
    (b : RowBuilder) : Type 0 where
  pub needs : AreSeen facts picture.layout.now v (read_needs (flight_rows (flight_in facts)) at.line at.unit)
  pub current : b.reader.segments.current
      ≡ segment_having (picture_segments picture.plan.now) (address_in picture.plan.now at)
  pub read : IsReadKnown picture.plan.now (address_in picture.plan.now at) b.reader.records b.reader.reader
  pub next : StandsBefore picture.plan.now (address_in picture.plan.now at + 1) b.reader.reader b.reader.left
  pub laid : IsLaid (shape_of picture) at.line.row b.border.above (units_in facts picture)
      (unit_places (shape_of picture) * min (at.unit + 2) (width_in_ctbs picture.plan.now.sps))
  pub above : at.unit + 1 < width_in_ctbs picture.plan.now.sps → 0 < at.line.row
      → IsAboveOf (flight_in facts) picture.place picture.plan.now (at.line.row - 1) (at.unit + 1)
      (above_of b (at.unit + 1))

-- its motion is derived, as the picture has it: of a known unit of a segment, at which the border stands, with what
-- units make of the picture beside it and the collocated picture's motion beneath
pub record HasDerived (facts : FlightFacts) (picture : PictureView) (at : UnitAt) (v : View FlightFacts)
    (b : RowBuilder) : Type 0 where
  pub known : KnownUnit
  pub is : units_known picture.plan.now (address_in picture.plan.now at) ≡ Some known
  pub same : IsReadAs known b.reader.records b.reader.reader
  pub segment : SegmentPlan
  pub has : slice_get picture.plan.now.segments known.segment ≡ Some segment
  pub unit : IsUnit picture.plan.now segment b.border.unit
  pub address : b.border.unit.address ≡ address_in picture.plan.now at
  pub collocated : AreSeen facts picture.layout.now v
      (row_needs (flight_rows (flight_in facts)) (collocated_of (flight_rows (flight_in facts)) at.line at.unit)
      at.line.row)
  pub beside : IsBeside b.border (units_in facts picture)
  pub beneath : IsBeneath b.border
      (collocated_motions (motions_of (pictures_before (flight_in facts) picture.place))
      (collocated_entry segment.header.slice (slice_start picture.plan.now segment).lists))
  pub derived : IsDerived picture.plan.now segment b.border b.reader.records b.built
  pub motion : held b.built.motion
      ≡ known_of_unit (motions_of (pictures_before (flight_in facts) picture.place)) picture.plan.now segment
      (tree_unit known.segment (address_in picture.plan.now at) known.read) (units_in facts picture).motions
  pub format : b.format ≡ unit_format picture.plan.now.sps picture.plan.now.pps segment.header.slice

-- what counting it needs is met, and all final rows that it uses are seen
pub record HasReached (facts : FlightFacts) (picture : PictureView) (at : UnitAt) (v : View FlightFacts)
    (b : RowBuilder) : Type 0 where
  pub needs : AreSeen facts picture.layout.now v (unit_needs (flight_rows (flight_in facts)) at.line at.unit)
  pub final : (j row : ℕ) → UnitUses (flight_rows (flight_in facts)) at.line at.unit (line_of S j row) 0
      → is_seen b.seen j row ≡ true

-- its samples are built: what was built is what units make of the picture there
abbrev pub HasBuilt : FlightFacts → PictureView → UnitAt → RowBuilder → Type 0
HasBuilt facts picture at b =
    HoldsBuilt picture.plan.now (address_in picture.plan.now at) b.built (units_in facts picture)
