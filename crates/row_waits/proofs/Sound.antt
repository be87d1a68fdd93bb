-- What a pass has seen counted is sound.
use Rattle.std.proofs.Common.{◌≡◌, ℕ, ◌<◌, sym, ap, ◌∙◌, true}
use Rattle.hv_base.specs.declared.line.Line.{Line}
use Rattle.flight_plan.specs.Flight.{FlightRows}
use Rattle.board_core.specs.Places.{IsLine}
use Rattle.sample_words.specs.declared.sizes.FlightSizes.{FlightSizes}
use Rattle.sample_words.specs.Words.{IsLine as IsWordLine, line_at, line_number}
use Rattle.progress_words.specs.declared.view.View.{View}
use Rattle.progress_words.specs.Views.{seen_of}
use Rattle.flight_lines.specs.Flights.{IsSized, meaning_of}
use Rattle.flight_lines.proofs.Numbered.{flight_line, number_line}
use Rattle.unit_reach.specs.SpecFlights.{flight_rows, is_sound}
use Rattle.flight_waits.specs.FactsOfFlights.{FlightFacts}
use Rattle.flight_waits.specs.FactsOfFlights.{flight_in}
use Rattle.flight_waits.specs.FactsOfFlights.{IsOfFlight}
use Rattle.flight_waits.specs.Waits.{AreAllKnown}
use Rattle.flight_waits.proofs.Waited.{sized}

module _ (facts : FlightFacts) (s : FlightSizes) (of_flight : IsOfFlight facts s) (v : View FlightFacts)
    (known : AreAllKnown facts v) where
  pub seen_sound : (l : Line) (y : ℕ) → IsWordLine s l → y < seen_of v (line_number s l)
      → is_sound (flight_in facts) l y ≡ true
  unfolding meaning_of
  seen_sound l y line seen =
      let plan : FlightRows = flight_rows (flight_in facts) in
      let is : IsSized plan s = sized facts s of_flight in
      let there : IsLine plan l = flight_line plan s is l line in
      ap (λ (n : Line). is_sound (flight_in facts) n y) (sym (number_line plan s is l there))
      ∙ (ap (λ (t : FlightSizes). is_sound (flight_in facts) (line_at t (line_number s l)) y) of_flight.sizes
      ∙ known (line_number s l) y seen)
