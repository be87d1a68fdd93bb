-- A coding tree unit whose needs are met is the next one that may be counted; and when it is counted.
use Rattle.std.proofs.Common.{◌≡◌, ℕ, ◌+◌, ◌≤◌, ◌⊎◌, inl, true, is_some, List, refl, ap, sym, subst, ◌∙◌}
use Rattle.std.proofs.Common.{arith}
use Rattle.std.proofs.lemmas.Option.{same_Some}
use Rattle.hv_base.specs.declared.line.Line.{Line}
use Rattle.hv_base.specs.declared.line.Phase.{Phase}
use Rattle.header_types.specs.SequenceParameterSets.{width_in_ctbs}
use Rattle.flight_plan.specs.Flight.{FlightRows}
use Rattle.board_core.specs.Needs.{unit_needs}
use Rattle.board_core.specs.Places.{full_count}
use Rattle.sample_words.specs.declared.sizes.FlightSizes.{FlightSizes}
use Rattle.sample_words.specs.Sizes.{columns}
use Rattle.sample_words.specs.Words.{line_at, line_units, lines}
use Rattle.progress_words.specs.declared.pass.Pass.{Pass}
use Rattle.progress_words.specs.declared.view.View.{View}
use Rattle.progress_words.specs.Core.{AreMet}
use Rattle.progress_words.specs.Faults.{unit_in}
use Rattle.progress_words.specs.Meanings.{Meaning}
use Rattle.progress_words.specs.Passes.{IsPassOf, Knows, view}
use Rattle.progress_words.specs.Places.{Place}
use Rattle.progress_words.specs.Rule.{IsNext}
use Rattle.progress_words.specs.Views.{AllSound, HasEnded, counting, seen_of}
use Rattle.flight_lines.specs.Flights.{meaning_of}
use Rattle.flight_lines.specs.Numbers.{numbered_needs}
use Rattle.flight_lines.proofs.Numbered.{line_again, number_of_words, units_are}
use Rattle.line_words.specs.Places.{IsUnit, UnitAt, number_at}
use Rattle.border_words.specs.RowBorders.{with_left}
use Rattle.spec_known_units.specs.Known.{units_known}
use Rattle.spec_flights.specs.Pictures.{PlannedFlight}
use Rattle.spec_flights.specs.Rows.{flight_rows, is_sound, is_sound_in, is_sound_of}
use Rattle.border_words.specs.FlightFacts.{FlightFacts}
use Rattle.border_words.specs.FlightFacts.{flight_meaning}
use Rattle.border_words.specs.FlightFacts.{flight_in}
use Rattle.border_words.specs.FlightFacts.{IsOfFlight}
use Rattle.done_units.specs.FlightWaits.{AreAllKnown, AreSeen, HasSameParts, HoldsUnit}
use Rattle.done_units.proofs.FlightWaitsLemmas.{line_there, sized}
use Rattle.row_waits.specs.declared.picture_view.PictureView.{PictureView}
use Rattle.row_waits.specs.Pictures.{IsPictureOf, IsUnitOf, address_in}
use Rattle.row_waits.proofs.Rows.{rows_stay}
use Rattle.built_rows.specs.declared.row_builder.RowBuilder.{RowBuilder}
use Rattle.built_rows.specs.Stages.{GoesOn, IsReadyFor, IsWorking}
use Rattle.built_rows.proofs.Inside.{columns_are, of_flight, plan_at}
use Rattle.built_rows.proofs.Next.{counted_known, counted_line, counted_more}
use Rattle.built_rows.proofs.Working.{is_ready}

module _ (facts : FlightFacts) (picture : PictureView) (is : IsPictureOf facts picture) (at : UnitAt)
    (unit : IsUnitOf picture at) (there : IsUnit at) where
  abbrev f : PlannedFlight
  f = flight_in facts

  abbrev plan : FlightRows
  plan = flight_rows (flight_in facts)

  abbrev m : Meaning
  m = flight_meaning (flight_in facts)

  abbrev n : ℕ
  n = number_at at

  flight : IsOfFlight facts at.sizes
  flight = of_flight facts picture is at unit there

  -- what the board means by the number of its line
  again : line_at at.sizes (number_at at) ≡ at.line
  again = line_again at.sizes at.line there.line

  lines_is : (flight_meaning (flight_in facts)).lines ≡ lines at.sizes
  unfolding meaning_of
  lines_is = ap lines (sym flight.sizes)

  sound_is : (x : ℕ) → (flight_meaning (flight_in facts)).sound (number_at at) x ≡ is_sound (flight_in facts) at.line x
  unfolding meaning_of
  sound_is x =
      ap (λ (t : FlightSizes). is_sound f (line_at t n) x) (sym flight.sizes)
      ∙ ap (λ (k : Line). is_sound f k x) again

  needs_is : (x : ℕ) → (flight_meaning (flight_in facts)).needs (number_at at) x
      ≡ numbered_needs at.sizes (unit_needs (flight_rows (flight_in facts)) at.line x)
  unfolding meaning_of
  needs_is x =
      ap (λ (t : FlightSizes). numbered_needs t (unit_needs plan (line_at t n) x)) (sym flight.sizes)
      ∙ ap (λ (k : Line). numbered_needs at.sizes (unit_needs plan k x)) again

  width_is : (flight_meaning (flight_in facts)).width (number_at at) ≡ line_units at.sizes at.line.phase
  unfolding meaning_of
  width_is =
      ap (λ (t : FlightSizes). full_count plan (line_at t n)) (sym flight.sizes)
      ∙ (ap (full_count plan) again
      ∙ units_are plan at.sizes (sized facts at.sizes flight) at.line
      (line_there facts at.sizes flight at.line there.line))

  -- a known unit is sound
  unit_sound : is_some (units_known picture.plan.now (address_in picture.plan.now at)) ≡ true
      → is_sound (flight_in facts) at.line at.unit ≡ true
  unfolding is_sound
  unit_sound known =
      ap (λ o. is_sound_of o at.line at.unit) (plan_at facts picture is at unit there)
      ∙ (ap (λ (phase : Phase). is_sound_in picture.plan.now phase at.line.row at.unit) unit.phase ∙ known)

  module _ (v : View FlightFacts) (holds : HoldsUnit v at) where
    pub unit_next : is_some (units_known picture.plan.now (address_in picture.plan.now at)) ≡ true
        → AreSeen facts picture.layout.now v (unit_needs (flight_rows (flight_in facts)) at.line at.unit)
        → IsNext (flight_meaning (flight_in facts)) v (number_at at)
    unit_next known needs =
        let count = lines_is in
        let less = number_of_words at.sizes at.line there.line in
        let width = width_is in
        let inside = there.unit in
        let seen = holds.next in
        record {
          line = omega (arith, count, less);
          job = holds.job;
          left = omega (arith, seen, width, inside);
          sound = ap (m.sound n) holds.next ∙ (sound_is at.unit ∙ unit_sound known);
          met =
              subst (λ (x : ℕ). AreMet m (seen_of v) (m.needs n x)) (sym holds.next)
              (subst (λ (needs : List (ℕ × ℕ)). AreMet m (seen_of v) needs) (sym (needs_is at.unit))
              (subst (λ (s : FlightSizes). AreMet m (seen_of v) (numbered_needs s (unit_needs plan at.line at.unit)))
              (sym unit.sizes) needs));
        }

    -- the last unit of a row is counted
    pub row_ended : at.unit + 1 ≡ width_in_ctbs picture.plan.now.sps
        → HasEnded (flight_meaning (flight_in facts)) (counting v (number_at at) (at.unit + 1))
    row_ended last line job =
        let same : number_at at ≡ line = same_Some (number_at at) line (sym holds.job ∙ job) in
        let w : View FlightFacts = counting v (number_at at) (at.unit + 1) in
        subst (λ (i : ℕ). (m.width i ≤ seen_of w i) ⊎ (unit_in w.least ≤ m.number i (seen_of w i))) same
        (inl all_counted)
      where
        all_counted : (flight_meaning (flight_in facts)).width (number_at at)
            ≤ seen_of (counting v (number_at at) (at.unit + 1)) (number_at at)
        all_counted =
            let width = width_is in
            let of_phase : line_units at.sizes at.line.phase ≡ columns at.sizes =
            ap (λ (phase : Phase). line_units at.sizes phase) unit.phase in
            let across : columns at.sizes ≡ width_in_ctbs picture.plan.now.sps =
            ap (λ (s : FlightSizes). columns s) unit.sizes ∙ columns_are facts picture is in
            let count = counted_line v (number_at at) at.unit holds.next in
            omega (arith, width, of_phase, across, last, count)

-- the unit is counted, and what stands on the left of the next one is laid
module _ (board : Place FlightFacts) (picture : PictureView) (at : UnitAt) (p q : Pass FlightFacts) (b c : RowBuilder)
    (own : IsPassOf board p) (working : IsWorking board.flight picture at (view p) b)
    (knows : Knows p q (counting (view p) (number_at at) (at.unit + 1)))
    (sound : AllSound (flight_meaning (flight_in board.flight)) (number_at at) (at.unit + 1))
    (kept : c ≡ record b { border = with_left b.border c.border.left }) where
  abbrev w : View FlightFacts
  w = counting (view p) (number_at at) (at.unit + 1)

  more : (l : ℕ) → seen_of (view p) l ≤ seen_of (counting (view p) (number_at at) (at.unit + 1)) l
  more = counted_more (view p) (number_at at) at.unit working.holds.next

  ready : IsReadyFor picture (counting (view p) (number_at at) (at.unit + 1)) c
  ready =
      subst (λ (t : RowBuilder). IsReadyFor picture w t) (sym kept)
      (record {
        across = (is_ready board.flight picture at (view p) b working).across;
        rows = rows_stay picture.layout.now (view p) w b.seen more working.rows;
      })

  pub counts_on : GoesOn board picture p q c
  counts_on = record {
    own = (knows.0 ∙ own.0, ap (λ (u : View FlightFacts). u.facts) knows.1 ∙ own.1);
    known =
        subst (λ (u : View FlightFacts). AreAllKnown board.flight u) (sym knows.1)
        (counted_known (view p) (number_at at) at.unit working.holds.next board.flight working.known sound);
    ready = subst (λ (u : View FlightFacts). IsReadyFor picture u c) (sym knows.1) ready;
    parts =
        subst (HasSameParts (view p)) (sym knows.1)
        (record { none = refl; opens = refl; splits = refl; joins = refl });
    more = λ l. subst (λ (u : View FlightFacts). seen_of (view p) l ≤ seen_of u l) (sym knows.1) (more l);
  }
