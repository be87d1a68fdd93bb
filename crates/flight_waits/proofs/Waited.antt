-- What a pass that has waited knows.
use Rattle.std.proofs.Common.{◌≡◌, ℕ, ◌<◌, ◌≤◌, ◌⊎◌, arith, ap, sym, subst, ◌∙◌, inr, Some, List}
use Rattle.std.proofs.lemmas.Option.{same_Some}
use Rattle.hv_base.specs.declared.line.Line.{Line}
use Rattle.board_core.specs.Places.{IsLine, unit_of}
use Rattle.sample_words.specs.declared.sizes.FlightSizes.{FlightSizes}
use Rattle.sample_words.specs.Words.{IsLine as IsWordLine, line_at, line_number}
use Rattle.progress_words.specs.declared.view.View.{View}
use Rattle.progress_words.specs.Faults.{unit_in}
use Rattle.progress_words.specs.Meanings.{Meaning}
use Rattle.progress_words.specs.Views.{HasEnded, seen_of}
use Rattle.flight_lines.specs.Flights.{IsSized, meaning_of}
use Rattle.flight_lines.specs.Numbers.{numbered_needs, unit_number}
use Rattle.flight_lines.proofs.Numbered.{flight_line, number_line}
use Rattle.flight_lines.proofs.Placed.{unit_is_number}
use Rattle.line_words.specs.Passes.{HasGone, NameOthers}
use Rattle.line_words.specs.Places.{IsUnit, UnitAt, number_at}
use Rattle.flight_facts.specs.SpecFlights.{flight_rows}
use Rattle.flight_facts.specs.declared.flight_facts.FlightFacts.{FlightFacts}
use Rattle.flight_facts.specs.Boards.{board_flight, flight_meaning}
use Rattle.flight_facts.specs.Facts.{flight_in}
use Rattle.flight_facts.specs.Flights.{IsOfFlight}
use Rattle.flight_facts.proofs.Sized.{flight_sized}
use Rattle.flight_waits.specs.Frames.{frame_rows}
use Rattle.flight_waits.specs.Waits.{HasWaited, HoldsUnit}
use Rattle.flight_waits.proofs.Framed.{frame_sized, framed_line}

pub has_waited : {F : Type 0} (v w : View F) (line : ℕ) (needs : List (ℕ × ℕ)) → NameOthers line needs
    → HasGone v needs w → HasWaited v line w
has_waited v w line needs others gone =
    record { same = gone.same; more = gone.more; own = (gone.others line others).0 }

module _ (facts : FlightFacts) (s : FlightSizes) (is : IsOfFlight facts s) where
  pub sized : IsSized (flight_rows (flight_in facts)) s
  sized =
      subst (IsSized (flight_rows (flight_in facts))) (sym is.sizes) (flight_sized (flight_in facts) is.planned)

  -- the frame of the flight
  pub sized_frame : IsSized (frame_rows (flight_in facts).pictures) s
  sized_frame = frame_sized (flight_in facts) s sized

  pub line_there : (l : Line) → IsWordLine s l → IsLine (flight_rows (flight_in facts)) l
  line_there l line = flight_line (flight_rows (flight_in facts)) s sized l line

  pub line_framed : (l : Line) → IsWordLine s l → IsLine (frame_rows (flight_in facts).pictures) l
  line_framed l line = framed_line (flight_in facts) l (line_there l line)

  -- the number of a unit
  number_is : (l : Line) (x : ℕ) → IsWordLine s l
      → (flight_meaning (flight_in facts)).number (line_number s l) x ≡ unit_number s l x
  unfolding meaning_of
  number_is l x line =
      let plan = flight_rows (flight_in facts) in
      ap (λ (t : FlightSizes). unit_of plan (line_at t (line_number s l)) x) (sym is.sizes)
      ∙ (ap (λ (k : Line). unit_of plan k x) (number_line plan s sized l (line_there l line))
      ∙ unit_is_number plan s sized l x (line_there l line))

  -- where a fault before the unit is found the job has ended
  pub ended : {F : Type 0} (v w : View F) (at : UnitAt) → IsUnit at → at.sizes ≡ s
      → HoldsUnit v at → HasWaited v (number_at at) w → unit_in w.least < unit_number at.sizes at.line at.unit
      → HasEnded (flight_meaning (flight_in facts)) w
  ended {F} v w at there same holds waited less line job =
      let m : Meaning = flight_meaning (flight_in facts) in
      let job_was : v.job ≡ Some line = sym (ap (λ (u : View F). u.job) waited.same) ∙ job in
      let number : number_at at ≡ line = same_Some (number_at at) line (sym holds.job ∙ job_was) in
      let seen : seen_of w (number_at at) ≡ at.unit = waited.own ∙ holds.next in
      let word_line : IsWordLine s at.line =
      subst (λ (t : FlightSizes). IsWordLine t at.line) same there.line in
      let told : m.number (number_at at) (seen_of w (number_at at)) ≡ unit_number at.sizes at.line at.unit =
      ap (λ (n : ℕ). m.number (number_at at) n) seen
      ∙ (ap (λ (t : FlightSizes). m.number (line_number t at.line) at.unit) same
      ∙ (number_is at.line at.unit word_line ∙ ap (λ (t : FlightSizes). unit_number t at.line at.unit) (sym same))) in
      subst (λ (n : ℕ). (m.width n ≤ seen_of w n) ⊎ (unit_in w.least ≤ m.number n (seen_of w n))) number
      (inr (omega (arith, told, less)))
