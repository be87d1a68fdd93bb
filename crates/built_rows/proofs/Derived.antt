-- What the second stage of a coding tree unit's work leaves.
use Rattle.std.proofs.Common.{◌≡◌, ℕ, ◌<◌, ◌≤◌, true, All, Some, ap, sym, subst, ◌∙◌, slice_get}
use Rattle.hv_base.specs.declared.line.Phase.TheVariants.{B}
use Rattle.plan_types.specs.declared.segment_plan.SegmentPlan.{SegmentPlan}
use Rattle.ctu_motion.specs.Held.{held}
use Rattle.border_words.specs.PictureBuild.{of_slice}
use Rattle.border_words.specs.PictureBuild.{buffer_of}
use Rattle.border_words.specs.PictureFilters.{IsUnit as IsUnitIn}
use Rattle.spec_motion.specs.Units.{IsPlacedItem}
use Rattle.spec_slice_data.specs.Segment.{row_of}
use Rattle.spec_picture_trees.specs.Shapes.{slice_start}
use Rattle.spec_known_units.specs.Known.{KnownUnit, units_known}
use Rattle.spec_picture_motion.specs.Derived.{collocated_motions, known_of_unit}
use Rattle.spec_picture_motion.specs.Slices.{collocated_entry}
use Rattle.spec_picture_build.specs.References.{motions_of}
use Rattle.spec_reconstruction.specs.declared.format.UnitFormat.{UnitFormat}
use Rattle.spec_reconstruction.specs.Sound.{IsFormat}
use Rattle.flight_plan.specs.declared.row_range.Reference.TheVariants.{Flight}
use Rattle.board_core.specs.Needs.{row_needs}
use Rattle.board_core.specs.Places.{line_of}
use Rattle.sample_words.specs.Sizes.{columns}
use Rattle.sample_words.specs.Words.{line_number}
use Rattle.spec_flights.specs.Pictures.{pictures_before}
use Rattle.spec_flights.specs.References.{collocated_by, names_before, segment_of}
use Rattle.spec_flights.specs.Rows.{flight_rows, is_sound}
use Rattle.border_words.specs.RowBorders.{Bordering, with_beneath}
use Rattle.border_words.specs.RowBorders.{IsBeneath, IsBeside, IsDerived, tree_unit}
use Rattle.border_words.specs.UnitBuild.{BuiltUnit}
use Rattle.progress_words.specs.declared.pass.Pass.{Pass}
use Rattle.progress_words.specs.declared.view.View.{View}
use Rattle.progress_words.specs.Passes.{IsPassOf, Knows, view}
use Rattle.progress_words.specs.Places.{Place}
use Rattle.progress_words.specs.Views.{seen_of}
use Rattle.line_words.specs.Places.{IsUnit, UnitAt}
use Rattle.border_words.specs.FlightFacts.{FlightFacts}
use Rattle.border_words.specs.FlightFacts.{flight_in}
use Rattle.done_units.specs.FlightWaits.{AreSeen}
use Rattle.border_words.specs.Beneath.{AreReferences}
use Rattle.border_words.specs.declared.reference_pictures.ReferencePictures.{ReferencePictures}
use Rattle.row_waits.specs.declared.picture_view.PictureView.{PictureView}
use Rattle.row_waits.specs.Pictures.{IsPictureOf, address_in}
use Rattle.built_rows.specs.declared.row_builder.RowBuilder.{RowBuilder}
use Rattle.built_rows.specs.Stages.{GoesOn, HasDerived, HasRead, IsLeftOf, IsWorking, shape_of, units_in}
use Rattle.built_rows.proofs.Beneath.{common_still, has_derived, has_read_over, works_over}
use Rattle.built_rows.proofs.Collocated.{told_seen, units_counted, units_sound}
use Rattle.built_rows.proofs.Going.{knows_still}
use Rattle.built_rows.proofs.Placed.{segment_there}
use Rattle.built_rows.proofs.Working.{is_ready}

-- what a picture may refer to, as a worker of its flight knows it
pub are_references : (facts : FlightFacts) (picture : PictureView) (r : ReferencePictures) → IsPictureOf facts picture
    → r.plans.now ≡ picture.plans.now → r.picture ≡ picture.place → r.names.now ≡ picture.names.now
    → r.bases.now ≡ picture.bases.now → AreReferences facts r
are_references facts picture r is plans place names bases = record {
  plans = plans ∙ is.plans;
  names = names ∙ (is.names ∙ ap (names_before (flight_in facts)) (sym place));
  bases = ap buffer_of bases ∙ is.bases;
}

-- at a unit that was read, of a segment: the units of its row of the collocated picture, where that is of the flight
module _ (facts : FlightFacts) (picture : PictureView) (is : IsPictureOf facts picture) (at : UnitAt)
    (there : IsUnit at) (v : View FlightFacts) (b : RowBuilder) (working : IsWorking facts picture at v b)
    (read : HasRead facts picture at v b) (s : SegmentPlan)
    (of_known : (known : KnownUnit) → units_known picture.plan.now (address_in picture.plan.now at) ≡ Some known
    → slice_get picture.plan.now.segments known.segment ≡ Some s)
    (here : IsUnitIn picture.plan.now s b.border.unit)
    (address : b.border.unit.address ≡ address_in picture.plan.now at)
    (seen : AreSeen facts picture.layout.now v
    (row_needs (flight_rows (flight_in facts)) (collocated_by picture.names.now picture.plan.now s) at.line.row))
    (r : ReferencePictures) (names : r.names.now ≡ picture.names.now) (j : ℕ)
    (named : collocated_by r.names.now picture.plan.now s ≡ Some (Flight j)) where
  segment : segment_of picture.plan.now (address_in picture.plan.now at) ≡ Some s
  segment =
      segment_there facts picture is at working.unit there read.read.known read.read.is read.read.segment s
      (of_known read.read.known read.read.is)

  is_named : collocated_by picture.names.now picture.plan.now s ≡ Some (Flight j)
  is_named = ap (λ l. collocated_by l picture.plan.now s) (sym names) ∙ named

  pub beneath_counted : columns picture.layout.now
      ≤ seen_of v (line_number picture.layout.now (line_of B j (row_of b.border.unit.layout b.border.unit.address)))
  beneath_counted =
      units_counted facts picture is at working.unit there s segment v seen j is_named b.border.unit here.layout address

  pub beneath_sound : (x : ℕ) → x < columns picture.layout.now
      → is_sound (flight_in facts) (line_of B j (row_of b.border.unit.layout b.border.unit.address)) x ≡ true
  beneath_sound x inside =
      units_sound facts picture is at working.unit there s segment v seen j is_named b.border.unit here.layout address
      working.known x inside

-- in a picture of the flight, at a unit that was read, of a segment
module _ (board : Place FlightFacts) (picture : PictureView) (is : IsPictureOf board.flight picture) (at : UnitAt)
    (there : IsUnit at) (before after : Pass FlightFacts) (own : IsPassOf board before)
    (knows : Knows before after (view before)) (b : RowBuilder)
    (working : IsWorking board.flight picture at (view before) b)
    (read : HasRead board.flight picture at (view before) b)
    (left : IsLeftOf (shape_of picture) (address_in picture.plan.now at) b.border (units_in board.flight picture))
    (s : SegmentPlan)
    (of_known : (known : KnownUnit) → units_known picture.plan.now (address_in picture.plan.now at) ≡ Some known
    → slice_get picture.plan.now.segments known.segment ≡ Some s)
    (here : IsUnitIn picture.plan.now s b.border.unit)
    (address : b.border.unit.address ≡ address_in picture.plan.now at)
    (border : Bordering) (same : border ≡ with_beneath b.border border.beneath)
    (format : UnitFormat) (set : format ≡ of_slice picture.plan.now.pps s.header.slice b.format)
    (sound : IsFormat format) (built : BuiltUnit) where
  abbrev facts : FlightFacts
  facts = board.flight

  abbrev v : View FlightFacts
  v = view before

  works_then : IsWorking board.flight picture at (view before)
      (record b { border = border; format = format; built = built })
  works_then =
      works_over facts picture is at working.unit there v b s here address read left border same format built working
      (common_still picture s b.format format working.common set) sound

  pub works_derived : IsWorking board.flight picture at (view after)
      (record b { border = border; format = format; built = built })
  works_derived =
      subst
      (λ (u : View FlightFacts). IsWorking facts picture at u
      (record b { border = border; format = format; built = built }))
      (sym knows.1) works_then

  pub read_derived : HasRead board.flight picture at (view after)
      (record b { border = border; format = format; built = built })
  read_derived =
      subst
      (λ (u : View FlightFacts). HasRead facts picture at u
      (record b { border = border; format = format; built = built }))
      (sym knows.1)
      (has_read_over facts picture is at working.unit there v b s here address read left border same format built)

  pub goes_derived : GoesOn board picture before after (record b { border = border; format = format; built = built })
  goes_derived =
      knows_still board picture before after (record b { border = border; format = format; built = built }) own
      working.known
      (is_ready facts picture at v (record b { border = border; format = format; built = built }) works_then) knows

  pub motion_derived : AreSeen board.flight picture.layout.now (view before)
      (row_needs (flight_rows (flight_in board.flight))
      (collocated_by picture.names.now picture.plan.now s) at.line.row)
      → (k : ℕ) → k ≡ picture.place
      → IsBeneath border
      (collocated_motions (motions_of (pictures_before (flight_in board.flight) k))
      (collocated_entry s.header.slice (slice_start picture.plan.now s).lists))
      → IsDerived picture.plan.now s border b.reader.records built
      → ((number : ℕ) → All IsPlacedItem b.reader.records.items
      → IsBeside border (units_in board.flight picture)
      → IsBeneath border
      (collocated_motions (motions_of (pictures_before (flight_in board.flight) picture.place))
      (collocated_entry s.header.slice (slice_start picture.plan.now s).lists))
      → held built.motion
      ≡ known_of_unit (motions_of (pictures_before (flight_in board.flight) picture.place)) picture.plan.now s
      (tree_unit number border.unit.address b.reader.records) (units_in board.flight picture).motions)
      → HasDerived board.flight picture at (view after)
      (record b { border = border; format = format; built = built })
  motion_derived seen k place beneath derived value =
      let known = read.read.known in
      let has = of_known known read.read.is in
      let segment = segment_there facts picture is at working.unit there known read.read.is read.read.segment s has in
      let below : IsBeneath border
      (collocated_motions (motions_of (pictures_before (flight_in facts) picture.place))
      (collocated_entry s.header.slice (slice_start picture.plan.now s).lists)) =
      subst
      (λ n. IsBeneath border
      (collocated_motions (motions_of (pictures_before (flight_in facts) n))
      (collocated_entry s.header.slice (slice_start picture.plan.now s).lists)))
      place beneath in
      subst
      (λ (u : View FlightFacts). HasDerived facts picture at u
      (record b { border = border; format = format; built = built }))
      (sym knows.1)
      (has_derived facts picture is at working.unit there v b s here address read left border same format built has
      (told_seen facts picture is at working.unit there s segment v seen) below derived value
      (set ∙ working.common s.header.slice))
