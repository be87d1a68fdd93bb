-- What is built of a unit is what units make of its picture.
use Rattle.std.proofs.Common.{◌≡◌, ℕ, ◌+◌, ◌*◌, ◌<◌, refl, sym, ap, subst, ◌∙◌, true, List, Some, length, slice_get}
use Rattle.std.proofs.lemmas.Option.{same_Some}
use Rattle.hv_base.specs.declared.line.Line.{Line}
use Rattle.hv_base.specs.declared.line.Phase.TheVariants.{B, S}
use Rattle.header_types.specs.SequenceParameterSets.{height_in_ctbs, width_in_ctbs}
use Rattle.plan_types.specs.declared.picture_plan.PicturePlan.{PicturePlan}
use Rattle.plan_types.specs.declared.segment_plan.SegmentPlan.{SegmentPlan}
use Rattle.spec_known_units.specs.Known.{KnownUnit, units_known}
use Rattle.spec_picture_build.specs.References.{DecodedPicture}
use Rattle.spec_decoded_pictures.specs.Decoded.{DecodedUnits, unit_decoded}
use Rattle.board_core.specs.Places.{line_of}
use Rattle.board_core.specs.Uses.{UnitUses}
use Rattle.spec_flights.specs.Pictures.{PlannedFlight, folded_at}
use Rattle.spec_flights.specs.References.{given_at}
use Rattle.spec_flights.specs.Rows.{flight_rows}
use Rattle.border_words.specs.FlightUnitLaws.{IsPlanned}
use Rattle.border_words.specs.FlightUnitLaws.{AgreeWhereUsed, BuffersAgree}
use Rattle.border_words.proofs.FlightUnitLawsLemmas.{built_from_uses}
use Rattle.border_words.proofs.FlightUnitLawsLemmas.{halves_before}
use Rattle.done_units.proofs.FlightPackingLawsLemmas.{also_held}
use Rattle.row_waits.specs.FlightWindows.{seen_pictures}
use Rattle.row_waits.specs.FlightWindows.{SeenFlags, is_seen}
use Rattle.row_waits.proofs.FlightWindowsLemmas.{seen_agree}
use Rattle.border_words.specs.RowBorders.{HoldsUnit}
use Rattle.border_words.specs.UnitBuild.{BuiltUnit}
use Rattle.ctu_records.specs.Tree.{Ctu}
use Rattle.spec_picture_build.specs.Format.{unit_format}
use Rattle.spec_picture_build.specs.References.{motions_of}
use Rattle.spec_picture_motion.specs.Derived.{collocated_motions}
use Rattle.spec_picture_motion.specs.Slices.{collocated_entry}
use Rattle.spec_picture_trees.specs.Picture.{SegmentAt}
use Rattle.spec_picture_trees.specs.Shapes.{slice_start}
use Rattle.spec_reconstruction.specs.declared.format.UnitFormat.{UnitFormat}
use Rattle.spec_reconstruction.specs.Sound.{AreSound}
use Rattle.spec_flights.specs.Pictures.{pictures_before}
use Rattle.border_words.specs.RowBorders.{IsBeneath, IsBeside, tree_unit}
use Rattle.progress_words.specs.declared.view.View.{View}
use Rattle.line_words.specs.Places.{IsUnit, UnitAt}
use Rattle.border_words.specs.FlightFacts.{FlightFacts}
use Rattle.border_words.specs.FlightFacts.{flight_in}
use Rattle.row_waits.specs.declared.picture_view.PictureView.{PictureView}
use Rattle.row_waits.specs.Pictures.{IsPictureOf, IsUnitOf, address_in}
use Rattle.built_rows.specs.declared.row_builder.RowBuilder.{RowBuilder}
use Rattle.built_rows.specs.Stages.{HasDerived, HasReached, HasRead, units_in}
use Rattle.built_rows.proofs.Inside.{column_inside, line_is, row_inside, sps_is}
use Rattle.built_rows.proofs.Known.{number_inside, number_is, segment_is, sound_items}

-- a picture agrees with itself
same_where_used : (f : PlannedFlight) (k row x : ℕ) (p : PicturePlan) (units : DecodedUnits)
    → AgreeWhereUsed f (line_of B k row) x k p units units
same_where_used f k row x p units = record {
  samples = λ c y z used. refl;
  motions = λ y z used. refl;
  places = λ y z used. refl;
  coded = λ y z used. refl;
  units = λ c column row used. refl;
}

-- a unit that was built over its flight's picture and the final rows that are seen, where all those are seen that it
-- uses
pub built_as_known : (f : PlannedFlight) → IsPlanned f → (k row x : ℕ) (p : PicturePlan)
    → slice_get f.pictures k ≡ Some p → row < height_in_ctbs p.sps → x < width_in_ctbs p.sps
    → (known : KnownUnit) (s : SegmentPlan) (seen : SeenFlags) (built : BuiltUnit)
    → units_known p (row * width_in_ctbs p.sps + x) ≡ Some known → slice_get p.segments known.segment ≡ Some s
    → ((j r : ℕ) → UnitUses (flight_rows f) (line_of B k row) x (line_of S j r) 0 → is_seen seen j r ≡ true)
    → HoldsUnit p (row * width_in_ctbs p.sps + x) built
    (unit_decoded (seen_pictures f k seen) p s (given_at (row * width_in_ctbs p.sps + x) known) (folded_at f k))
    → HoldsUnit p (row * width_in_ctbs p.sps + x) built (folded_at f k)
built_as_known f planned k row x p has low inside known s seen built is segment final holds =
    let others : BuffersAgree f (line_of B k row) x k p (seen_pictures f k seen) =
    seen_agree f k seen planned p has (line_of B k row) x final in
    also_held p (row * width_in_ctbs p.sps + x) built (folded_at f k)
    (unit_decoded (seen_pictures f k seen) p s (given_at (row * width_in_ctbs p.sps + x) known) (folded_at f k))
    (built_from_uses f planned k row x p has low inside (seen_pictures f k seen) others (halves_before f planned k)
    known is s segment (folded_at f k) (same_where_used f k row x p (folded_at f k)))
    holds

-- a unit of a row whose motion is derived, where all final rows are seen that it uses
module _ (facts : FlightFacts) (picture : PictureView) (is : IsPictureOf facts picture) (at : UnitAt)
    (unit : IsUnitOf picture at) (there : IsUnit at) (v : View FlightFacts) (b : RowBuilder)
    (derived : HasDerived facts picture at v b) (reached : HasReached facts picture at v b) where
  abbrev p : PicturePlan
  p = picture.plan.now

  abbrev s : SegmentPlan
  s = derived.segment

  abbrev units : DecodedUnits
  units = units_in facts picture

  abbrev pictures : List DecodedPicture
  pictures = seen_pictures (flight_in facts) picture.place b.seen

  sound : AreSound b.format b.reader.records.items
  sound =
      let read : AreSound (unit_format p.sps p.pps s.header.slice) derived.known.read.items =
      sound_items p (sps_is facts picture is) (address_in p at) derived.known derived.is s in
      subst (λ (g : UnitFormat). AreSound g b.reader.records.items) (sym derived.format)
      (subst (λ (ctu : Ctu). AreSound (unit_format p.sps p.pps s.header.slice) ctu.items) (sym derived.same.read) read)

  final : (j r : ℕ)
      → UnitUses (flight_rows (flight_in facts)) (line_of B picture.place at.line.row) at.unit (line_of S j r) 0
      → is_seen b.seen j r ≡ true
  final j r uses =
      reached.final j r
      (subst (λ (l : Line). UnitUses (flight_rows (flight_in facts)) l at.unit (line_of S j r) 0)
      (sym (line_is facts picture is at unit there)) uses)

  abbrev Holds : ℕ → Ctu → BuiltUnit → Type 0
  Holds address ctu built =
      HoldsUnit p address built (unit_decoded pictures p s (tree_unit derived.known.segment address ctu) units)

  pub has_built : (built : BuiltUnit)
      → (AreSound b.format b.reader.records.items → IsBeside b.border (units_in facts picture)
      → IsBeneath b.border
      (collocated_motions (motions_of (pictures_before (flight_in facts) picture.place))
      (collocated_entry derived.segment.header.slice (slice_start picture.plan.now derived.segment).lists))
      → HoldsUnit picture.plan.now b.border.unit.address built
      (unit_decoded (seen_pictures (flight_in facts) picture.place b.seen) picture.plan.now derived.segment
      (tree_unit derived.known.segment b.border.unit.address b.reader.records) (units_in facts picture)))
      → HoldsUnit picture.plan.now (address_in picture.plan.now at) built (units_in facts picture)
  has_built built holds =
      built_as_known (flight_in facts) is.flight.planned picture.place at.line.row at.unit p is.plan
      (row_inside facts picture is at unit there) (column_inside facts picture is at unit there) derived.known s b.seen
      built derived.is derived.has final
      (subst (λ (ctu : Ctu). Holds (address_in p at) ctu built) derived.same.read
      (subst (λ (address : ℕ). Holds address b.reader.records built) derived.address
      (holds sound derived.beside derived.beneath)))

-- the slice segment of a unit whose motion is derived, by the number of the current one
module _ (facts : FlightFacts) (picture : PictureView) (is : IsPictureOf facts picture) (at : UnitAt)
    (unit : IsUnitOf picture at) (there : IsUnit at) (v : View FlightFacts) (b : RowBuilder)
    (read : HasRead facts picture at v b) (derived : HasDerived facts picture at v b) (n : ℕ)
    (each : (s : SegmentAt) → b.reader.segments.current ≡ Some s → n ≡ s.number) where
  same_known : read.read.known ≡ derived.known
  same_known = same_Some read.read.known derived.known (sym read.read.is ∙ derived.is)

  pub number_there : n < length picture.plan.now.segments
  number_there =
      let same : n ≡ read.read.known.segment =
      number_is facts picture is at unit there read.read.known read.read.is read.read.segment b.reader.segments.current
      read.current n each in
      subst (λ (k : ℕ). k < length picture.plan.now.segments) (sym same)
      (number_inside facts picture is at unit there read.read.known read.read.is)

  pub segment_there : (s : SegmentPlan) → slice_get picture.plan.now.segments n ≡ Some s → s ≡ derived.segment
  segment_there s has =
      segment_is facts picture is at unit there read.read.known read.read.is read.read.segment
      b.reader.segments.current read.current n each s derived.segment has
      (ap (λ (k : KnownUnit). slice_get picture.plan.now.segments k.segment) same_known ∙ derived.has)
