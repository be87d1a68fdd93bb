-- The collocated picture of a known unit's slice, as its flight tells it, and the unit's row of it.
use Rattle.std.proofs.Common.{
  ◌≡◌,
  ℕ,
  ◌+◌,
  ◌*◌,
  ◌<◌,
  ◌≤◌,
  true,
  All,
  Some,
  None,
  length,
  slice_get,
  sym,
  ap,
  subst,
  ◌∙◌,
  arith,
}
use Rattle.std.proofs.Common.{inl, inr}
use Rattle.std.proofs.lemmas.Bool.{cases_lt}
use Rattle.std.proofs.lemmas.List.{get_or_past}
use Rattle.std.specs.Prelude.{slice_index_or}
use Rattle.std.specs.Option.{option_and_then}
use Rattle.std.proofs.lemmas.List.FromFn.{get_or-map-range_with_len}
use Rattle.hv_base.specs.declared.line.Phase.TheVariants.{B}
use Rattle.header_types.specs.SequenceParameterSets.{height_in_ctbs, size_in_ctbs, width_in_ctbs}
use Rattle.plan_types.specs.declared.picture_plan.PicturePlan.{PicturePlan}
use Rattle.plan_types.specs.declared.segment_plan.SegmentPlan.{SegmentPlan}
use Rattle.flight_plan.specs.Flight.{FlightRows, IsNoneOrEarlier, PictureRows, picture_at}
use Rattle.flight_plan.specs.declared.row_range.Reference.TheVariants.{Flight}
use Rattle.board_core.specs.Needs.{collocated_of, row_needs, unit_in_picture}
use Rattle.board_core.specs.Places.{line_of}
use Rattle.sample_words.specs.declared.sizes.FlightSizes.{FlightSizes}
use Rattle.sample_words.specs.Sizes.{columns}
use Rattle.sample_words.specs.Words.{IsLine, line_number}
use Rattle.progress_words.specs.declared.view.View.{View}
use Rattle.progress_words.specs.Views.{seen_of}
use Rattle.unit_reach.specs.SpecFlights.{PlannedFlight}
use Rattle.unit_reach.specs.SpecFlights.{collocated_at, collocated_by, names_before, segment_of}
use Rattle.unit_reach.specs.SpecFlights.{flight_rows, is_sound, rows_in}
use Rattle.flight_waits.proofs.FactsOfFlights.{in_picture}
use Rattle.flight_waits.specs.FactsOfFlights.{IsPlanned}
use Rattle.flight_waits.proofs.FactsOfFlights.{as_many, rows_are, width_is}
use Rattle.flight_waits.proofs.FactsOfFlights.{is_flight}
use Rattle.std.proofs.lemmas.Option.{slice_get_within}
use Rattle.flight_waits.specs.FactsOfFlights.{FlightFacts}
use Rattle.flight_waits.specs.FactsOfFlights.{flight_meaning}
use Rattle.flight_waits.specs.FactsOfFlights.{flight_in}
use Rattle.flight_waits.specs.FactsOfFlights.{IsOfFlight}
use Rattle.flight_waits.specs.Waits.{AreAllKnown, AreSeen}
use Rattle.flight_waits.proofs.Waited.{sized}
use Rattle.row_waits.proofs.Rows.{row_met}
use Rattle.row_waits.proofs.Sound.{seen_sound}

module _ (f : PlannedFlight) (k row x : ℕ) (p : PicturePlan) (has : slice_get f.pictures k ≡ Some p)
    (low : row < height_in_ctbs p.sps) (inside : x < width_in_ctbs p.sps) (s : SegmentPlan)
    (segment : segment_of p (row * width_in_ctbs p.sps + x) ≡ Some s) where
  abbrev a : ℕ
  a = row * width_in_ctbs p.sps + x

  address_is : unit_in_picture (flight_rows f) (line_of B k row) x ≡ row * width_in_ctbs p.sps + x
  address_is = ap (λ n. row * n + x) (width_is f k p has)

  pub collocated_is : collocated_of (flight_rows f) (line_of B k row) x ≡ collocated_by (names_before f k) p s
  unfolding rows_in collocated_at
  collocated_is =
      let at : ℕ = unit_in_picture (flight_rows f) (line_of B k row) x in
      let less : a < size_in_ctbs p.sps = in_picture p row x low inside in
      let e = address_is in
      ap (λ (r : PictureRows). slice_index_or r.collocated at None) (rows_are f k p has)
      ∙ (get_or-map-range_with_len (collocated_at (names_before f k) p) 0 (size_in_ctbs p.sps) at a None
      (omega (arith, less, e)) (omega (arith, e))
      ∙ ap (option_and_then (collocated_by (names_before f k) p)) segment)

  pub collocated_earlier : IsPlanned f → IsNoneOrEarlier k (collocated_by (names_before f k) p s)
  collocated_earlier planned =
      let few = slice_get_within f.pictures k p has in
      let many = as_many f in
      let all = ((is_flight f planned).earlier k (omega (arith, few, many))).collocated in
      let at : ℕ = unit_in_picture (flight_rows f) (line_of B k row) x in
      subst (IsNoneOrEarlier k) collocated_is
      (told_at (flight_rows f) at all)
    where
      told_at : (plan : FlightRows) (at : ℕ) → All (IsNoneOrEarlier k) (picture_at plan k).collocated
          → IsNoneOrEarlier k (slice_index_or (picture_at plan k).collocated at None)
      told_at plan at all =
          elim (cases_lt at (length (picture_at plan k).collocated)) [
            | inl h ↦ all at None h
            | inr h ↦ subst (IsNoneOrEarlier k) (sym (get_or_past (picture_at plan k).collocated at None h)) tt
          ]

-- a row of an earlier picture that is seen as it is built
module _ (facts : FlightFacts) (s : FlightSizes) (of_flight : IsOfFlight facts s) (v : View FlightFacts)
    (j row : ℕ) (line : IsLine s (line_of B j row))
    (seen : AreSeen facts s v (row_needs (flight_rows (flight_in facts)) (Some (Flight j)) row)) where
  pub row_counted : columns s ≤ seen_of v (line_number s (line_of B j row))
  row_counted =
      let is = sized facts s of_flight in
      let few = line.picture in
      let many = is.count in
      let wide = is.widths j (omega (arith, few, many)) in
      let all = row_met (flight_meaning (flight_in facts)) (seen_of v) (flight_rows (flight_in facts)) s is B j row
      seen line in
      omega (arith, all, wide)

  pub row_sound : AreAllKnown facts v → (x : ℕ) → x < columns s
      → is_sound (flight_in facts) (line_of B j row) x ≡ true
  row_sound known x inside =
      let all = row_counted in
      seen_sound facts s of_flight v known (line_of B j row) x line (omega (arith, all, inside))
