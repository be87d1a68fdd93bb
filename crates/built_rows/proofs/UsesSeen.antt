-- What reading the next unit of a row uses is seen and sound.
use Rattle.std.proofs.Common.{◌≡◌, ℕ, ◌+◌, ◌-◌, ◌*◌, ◌<◌, ◌≤◌, refl, sym, ap, subst, ◌∙◌, arith}
use Rattle.std.proofs.Common.{false, true, Some, slice_get}
use Rattle.hv_base.specs.declared.line.Line.{Line}
use Rattle.hv_base.specs.declared.line.Phase.TheVariants.{B}
use Rattle.header_types.specs.SequenceParameterSets.{height_in_ctbs, width_in_ctbs}
use Rattle.plan_types.specs.declared.picture_plan.PicturePlan.{PicturePlan}
use Rattle.spec_picture_trees.specs.Picture.{SegmentAt}
use Rattle.spec_known_units.specs.Known.{picture_segments, segment_having}
use Rattle.flight_plan.specs.Flight.{FlightRows, picture_at}
use Rattle.board_core.specs.Needs.{read_needs}
use Rattle.board_core.specs.Places.{line_of, width_of}
use Rattle.board_core.specs.Uses.{Above, Carried, ReadingUses, above_of}
use Rattle.sample_words.specs.declared.sizes.FlightSizes.{FlightSizes}
use Rattle.progress_words.specs.declared.view.View.{View}
use Rattle.progress_words.specs.Views.{seen_of}
use Rattle.line_words.specs.Places.{IsUnit, UnitAt, number_at}
use Rattle.spec_flights.specs.Pictures.{PlannedFlight}
use Rattle.spec_flights.specs.Rows.{flight_rows, is_sound}
use Rattle.border_words.specs.FlightValueLaws.{AreUsesSound}
use Rattle.border_words.proofs.FlightUnitLawsLemmas.{unit_has_segment}
use Rattle.border_words.proofs.FlightUnitLawsLemmas.{sync_is, width_is}
use Rattle.row_waits.specs.RowTrees.{IsReadByKnown}
use Rattle.border_words.specs.FlightFacts.{FlightFacts}
use Rattle.border_words.specs.FlightFacts.{flight_in}
use Rattle.border_words.specs.FlightFacts.{IsOfFlight}
use Rattle.done_units.specs.FlightWaits.{AreAllKnown, AreSeen}
use Rattle.done_units.specs.Seen.{HasReached, IsSeenUnit}
use Rattle.done_units.proofs.Reached.{read_uses_seen, read_uses_sound}
use Rattle.row_waits.specs.declared.picture_view.PictureView.{PictureView}
use Rattle.row_waits.specs.Pictures.{IsPictureOf, IsUnitOf, address_in}
use Rattle.row_waits.proofs.Sound.{seen_sound}
use Rattle.built_rows.proofs.Inside.{address_inside, column_inside, plan_at, row_inside}

-- what a law of row_trees says
abbrev pub ReadBySound : Type 0
ReadBySound =
    (f : PlannedFlight) (k row x : ℕ) (p : PicturePlan) (at : SegmentAt)
    → slice_get f.pictures k ≡ Some p → row < height_in_ctbs p.sps → x < width_in_ctbs p.sps
    → segment_having (picture_segments p) (row * width_in_ctbs p.sps + x) ≡ Some at → AreUsesSound f k row x
    → IsReadByKnown p (row * width_in_ctbs p.sps + x)

-- a pass at the next unit of a row of a picture, by which what reading it needs is met
module _ (facts : FlightFacts) (picture : PictureView) (at : UnitAt) (v : View FlightFacts)
    (is : IsPictureOf facts picture) (unit : IsUnitOf picture at) (there : IsUnit at)
    (next : seen_of v (number_at at) ≡ at.unit) (known : AreAllKnown facts v)
    (needs : AreSeen facts picture.layout.now v (read_needs (flight_rows (flight_in facts)) at.line at.unit)) where
  abbrev plan : FlightRows
  plan = flight_rows (flight_in facts)

  flight : IsOfFlight facts at.sizes
  flight = subst (IsOfFlight facts) (sym unit.sizes) is.flight

  reached : HasReached facts v at
  reached = record { flight = flight; unit = there; seen = next }

  met : AreSeen facts at.sizes v (read_needs (flight_rows (flight_in facts)) at.line at.unit)
  met = subst (λ (s : FlightSizes). AreSeen facts s v (read_needs plan at.line at.unit)) (sym unit.sizes) needs

  pub uses_sound : AreUsesSound (flight_in facts) at.line.picture at.line.row at.unit
  uses_sound = read_uses_sound facts v at reached unit.phase known met

  pub uses_seen : (m : Line) (y : ℕ) → ReadingUses (flight_rows (flight_in facts)) at.line at.unit m y
      → IsSeenUnit at.sizes v m y
  uses_seen m y uses = read_uses_seen facts v at reached unit.phase met m y uses

  -- the units above it, from the one above on the left to the one above on the right
  pub above_seen : (y : ℕ) → 0 < at.line.row → at.unit ≤ y + 1 → y ≤ at.unit + 1
      → y < width_in_ctbs picture.plan.now.sps → IsSeenUnit at.sizes v (above_of at.line) y
  above_seen y some left right inside =
      let w = width_is (flight_in facts) picture.place picture.plan.now is.plan in
      let across : y < width_of plan at.line =
      subst (λ k. y < (picture_at plan k).width) (sym unit.place) (omega (arith, w, inside)) in
      uses_seen (above_of at.line) y (Above refl some left right across)

  above_is : above_of at.line ≡ line_of B picture.place (at.line.row - 1)
  above_is = ap (λ k. line_of B k (at.line.row - 1)) unit.place

  -- a unit of the row above, as the picture has it
  in_picture : (y : ℕ) → IsSeenUnit at.sizes v (above_of at.line) y
      → IsSeenUnit picture.layout.now v (line_of B picture.place (at.line.row - 1)) y
  in_picture y seen =
      subst (λ (s : FlightSizes). IsSeenUnit s v (line_of B picture.place (at.line.row - 1)) y) unit.sizes
      (subst (λ (m : Line). IsSeenUnit at.sizes v m y) above_is seen)

  pub row_above_seen : (y : ℕ) → 0 < at.line.row → at.unit ≤ y + 1 → y ≤ at.unit + 1
      → y < width_in_ctbs picture.plan.now.sps
      → IsSeenUnit picture.layout.now v (line_of B picture.place (at.line.row - 1)) y
  row_above_seen y some left right inside = in_picture y (above_seen y some left right inside)

  pub row_above_sound : (y : ℕ) → 0 < at.line.row → at.unit ≤ y + 1 → y ≤ at.unit + 1
      → y < width_in_ctbs picture.plan.now.sps
      → is_sound (flight_in facts) (line_of B picture.place (at.line.row - 1)) y ≡ true
  row_above_sound y some left right inside =
      let seen = row_above_seen y some left right inside in
      seen_sound facts picture.layout.now is.flight v known (line_of B picture.place (at.line.row - 1)) y seen.line
      seen.seen

  -- the last unit of the row above, where rows have no substreams of their own
  pub last_seen : (y : ℕ) → 0 < at.line.row → picture.plan.now.pps.prediction.entropy_coding_sync_enabled_flag ≡ false
      → at.unit ≡ 0 → y + 1 ≡ width_in_ctbs picture.plan.now.sps → IsSeenUnit at.sizes v (above_of at.line) y
  last_seen y some off first last =
      let w = width_is (flight_in facts) picture.place picture.plan.now is.plan in
      let sync : (picture_at plan at.line.picture).sync ≡ false =
      ap (λ k. (picture_at plan k).sync) unit.place
      ∙ (sync_is (flight_in facts) picture.place picture.plan.now is.plan ∙ off) in
      let across : y + 1 ≡ width_of plan at.line =
      subst (λ k. y + 1 ≡ (picture_at plan k).width) (sym unit.place) (last ∙ sym w) in
      uses_seen (above_of at.line) y (Carried refl some sync first across)

  pub last_above_seen : (y : ℕ) → 0 < at.line.row
      → picture.plan.now.pps.prediction.entropy_coding_sync_enabled_flag ≡ false → at.unit ≡ 0
      → y + 1 ≡ width_in_ctbs picture.plan.now.sps
      → IsSeenUnit picture.layout.now v (line_of B picture.place (at.line.row - 1)) y
  last_above_seen y some off first last = in_picture y (last_seen y some off first last)

  pub last_above_sound : (y : ℕ) → 0 < at.line.row
      → picture.plan.now.pps.prediction.entropy_coding_sync_enabled_flag ≡ false → at.unit ≡ 0
      → y + 1 ≡ width_in_ctbs picture.plan.now.sps
      → is_sound (flight_in facts) (line_of B picture.place (at.line.row - 1)) y ≡ true
  last_above_sound y some off first last =
      let seen = last_above_seen y some off first last in
      seen_sound facts picture.layout.now is.flight v known (line_of B picture.place (at.line.row - 1)) y seen.line
      seen.seen

  -- it is read by known units, by the law of row_trees
  pub read_by_known : ReadBySound → IsReadByKnown picture.plan.now (address_in picture.plan.now at)
  read_by_known law =
      let has = plan_at facts picture is at unit there in
      let segment =
      unit_has_segment picture.plan.now (address_in picture.plan.now at)
      (is.flight.planned.segments picture.place picture.plan.now is.plan)
      (address_inside facts picture is at unit there) in
      law (flight_in facts) at.line.picture at.line.row at.unit picture.plan.now segment.0 has
      (row_inside facts picture is at unit there) (column_inside facts picture is at unit there) segment.1 uses_sound
