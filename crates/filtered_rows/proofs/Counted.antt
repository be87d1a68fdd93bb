-- A row of coding tree blocks that is the next unit of the line held, and is counted.
use Rattle.std.proofs.Common.{◌≡◌, ◌≢◌, ℕ, ◌≤◌, Some, ap, sym, subst, ◌∙◌}
use Rattle.hv_base.specs.declared.line.Phase.TheVariants.{B}
use Rattle.sample_words.specs.declared.sizes.FlightSizes.{FlightSizes}
use Rattle.sample_words.specs.Words.{IsLine, line_number}
use Rattle.progress_words.specs.declared.view.View.{View}
use Rattle.progress_words.specs.Rule.{IsNext}
use Rattle.progress_words.specs.Views.{AllSound, HasEnded, counting, seen_of}
use Rattle.line_words.specs.Places.{IsUnit, UnitAt, number_at}
use Rattle.sample_lines.specs.FactsOfFlights.{FlightFacts}
use Rattle.sample_lines.specs.FactsOfFlights.{flight_meaning}
use Rattle.sample_lines.specs.FactsOfFlights.{flight_in}
use Rattle.sample_lines.specs.FactsOfFlights.{IsOfFlight}
use Rattle.flight_waits.specs.Waits.{AreAllKnown, HoldsUnit}
use Rattle.filtered_rows.specs.Phases.{IsReady}
use Rattle.filtered_rows.proofs.Ready.{row_ended, row_known, row_more, row_next}
use Rattle.filtered_rows.proofs.Sides.{at_is}

module _ (facts : FlightFacts) (s : FlightSizes) (is : IsOfFlight facts s) (u : UnitAt) (same : u.sizes ≡ s)
    (unit : IsUnit u) (other : u.line.phase ≢ B) where
  there : IsLine s u.line
  there = subst (λ (t : FlightSizes). IsLine t u.line) same unit.line

  number_is : number_at u ≡ line_number s u.line
  number_is = ap number_at (at_is s u same unit other)

  pub unit_is : u.unit ≡ 0
  unit_is = ap (λ (x : UnitAt). x.unit) (at_is s u same unit other)

  module _ (v : View FlightFacts) (holds : HoldsUnit v u) where
    job_is : v.job ≡ Some (line_number s u.line)
    job_is = holds.job ∙ ap (λ (n : ℕ). Some n) number_is

    seen_is : seen_of v (line_number s u.line) ≡ 0
    seen_is = ap (λ (n : ℕ). seen_of v n) (sym number_is) ∙ (holds.next ∙ unit_is)

    pub ready_next : AreAllKnown facts v → IsReady facts s v u.line
        → IsNext (flight_meaning (flight_in facts)) v (number_at u)
    ready_next known ready =
        subst (IsNext (flight_meaning (flight_in facts)) v) (sym number_is)
        (row_next facts s is v known u.line there other ready.needs job_is seen_is)

    -- behind counting
    module _ (w : View FlightFacts) (now : w ≡ counting v (number_at u) 1) where
      counted : w ≡ counting v (line_number s u.line) 1
      counted = now ∙ ap (λ (n : ℕ). counting v n 1) number_is

      pub unit_ended : HasEnded (flight_meaning (flight_in facts)) w
      unit_ended = row_ended facts s is v w u.line there other job_is seen_is counted

      pub unit_known : AreAllKnown facts v → AllSound (flight_meaning (flight_in facts)) (number_at u) 1
          → AreAllKnown facts w
      unit_known known sound =
          row_known facts s is v w u.line there other job_is seen_is counted known
          (subst (λ (n : ℕ). AllSound (flight_meaning (flight_in facts)) n 1) number_is sound)

      pub unit_more : (l : ℕ) → seen_of v l ≤ seen_of w l
      unit_more l = row_more facts s is v w u.line there other job_is seen_is counted l
