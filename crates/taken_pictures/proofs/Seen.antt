-- What a pass that has waited has seen, and that it is sound.
use Rattle.std.proofs.Common.{◌≡◌, ◌≢◌, ℕ, ◌+◌, ◌<◌, ◌≤◌, true, refl, sym, ap, ◌∙◌, subst, arith, inl, inr}
use Rattle.std.proofs.lemmas.Bool.{cases_eq, cases_lt}
use Rattle.hv_base.specs.declared.line.Line.{Line}
use Rattle.hv_base.specs.declared.line.Phase.TheVariants.{B, S}
use Rattle.board_core.specs.Places.{line_of}
use Rattle.sample_words.specs.declared.sizes.FlightSizes.{FlightSizes}
use Rattle.sample_words.specs.Sizes.{columns}
use Rattle.sample_words.specs.Words.{IsLine, line_at, line_number, lines}
use Rattle.progress_words.specs.declared.view.View.{View}
use Rattle.progress_words.specs.Meanings.{Meaning}
use Rattle.progress_words.specs.Passes.{HasLooked}
use Rattle.progress_words.specs.Views.{AllSound, seen_of}
use Rattle.flight_lines.specs.Flights.{meaning_of}
use Rattle.flight_lines.proofs.Numbered.{line_again}
use Rattle.line_words.specs.Passes.{AreAllSound}
use Rattle.spec_flights.specs.Rows.{is_sound}
use Rattle.sample_lines.specs.FactsOfFlights.{FlightFacts}
use Rattle.sample_lines.specs.FactsOfFlights.{flight_meaning}
use Rattle.sample_lines.specs.FactsOfFlights.{flight_in}
use Rattle.sample_lines.specs.FactsOfFlights.{IsOfFlight}
use Rattle.taken_pictures.specs.Pictures.{IsBuiltAndFinal, HasSeenMore}

module _ {F : Type 0} where
  -- a pass that looked at a line
  pub sees_more : (v w : View F) (l : ℕ) → HasLooked v l w → HasSeenMore v w
  sees_more v w l looked =
      record {
        same = looked.same;
        more = λ j. elim (cases_eq j l) [
          | inl here ↦ subst (λ n. seen_of v n ≤ seen_of w n) (sym here) looked.more
          | inr other ↦ let e = (looked.others j other).0 in omega (arith, e)
        ];
      }

  -- and what it has seen is still sound
  pub sound_on : (m : Meaning) (v w : View F) (l : ℕ) → HasLooked v l w → AllSound m l (seen_of w l)
      → AreAllSound m v → AreAllSound m w
  sound_on m v w l looked sound all j =
      elim (cases_eq j l) [
        | inl here ↦ subst (λ n. AllSound m n (seen_of w n)) (sym here) sound
        | inr other ↦ subst (AllSound m j) (sym (looked.others j other).0) (all j)
      ]

  pub sees_same : (v : View F) → HasSeenMore v v
  sees_same v = record { same = refl; more = λ l. omega arith }

  -- of what waits leave two after another leave so
  abbrev over : View F → View F → View F
  over v w = record v { seen = w.seen; loads = w.loads; least = w.least; fault_loads = w.fault_loads }

  pub sees_on : (u v w : View F) → HasSeenMore u v → HasSeenMore v w → HasSeenMore u w
  sees_on u v w first second =
      record {
        same = second.same ∙ ap (λ (x : View F). over x w) first.same;
        more = λ l. let a = first.more l in let b = second.more l in omega (arith, a, b);
      }

  -- a row that is seen stays so
  pub row_on : (s : FlightSizes) (v w : View F) (picture row : ℕ) → HasSeenMore v w → IsBuiltAndFinal s v picture row
      → IsBuiltAndFinal s w picture row
  row_on s v w picture row sees seen =
      let built = sees.more (line_number s (line_of B picture row)) in
      let final = sees.more (line_number s (line_of S picture row)) in
      record {
        built = omega (arith, built, seen.built);
        final = omega (arith, final, seen.final);
      }

  -- one more row
  pub rows_more : (s : FlightSizes) (v w : View F) (picture n : ℕ) → HasSeenMore v w
      → ((row : ℕ) → row < n → IsBuiltAndFinal s v picture row) → IsBuiltAndFinal s w picture n
      → (row : ℕ) → row < n + 1 → IsBuiltAndFinal s w picture row
  rows_more s v w picture n sees before here row below =
      elim (cases_eq row n) [
        | inl last ↦ subst (IsBuiltAndFinal s w picture) (sym last) here
        | inr other ↦ row_on s v w picture row sees (before row (less row n other below))
      ]
    where
      less : (a b : ℕ) → a ≢ b → a < b + 1 → a < b
      less a b apart most =
          elim (cases_lt a b) [
            | inl lt ↦ lt
            | inr ge ↦ absurd (apart (omega (arith, ge, most)))
          ]

  -- a row of which both lines were looked at
  pub row_is_seen : (s : FlightSizes) (v w : View F) (picture row : ℕ) (built final : Line) (count : ℕ)
      → built ≡ line_of B picture row → final ≡ line_of S picture row → count ≡ columns s → HasSeenMore v w
      → count ≤ seen_of v (line_number s built) → 1 ≤ seen_of w (line_number s final) → IsBuiltAndFinal s w picture row
  row_is_seen s v w picture row built final count built_is final_is all sees first second =
      let there : count ≤ seen_of v (line_number s (line_of B picture row)) =
      subst (λ (l : Line). count ≤ seen_of v (line_number s l)) built_is first in
      let more = sees.more (line_number s (line_of B picture row)) in
      record {
        built = omega (arith, there, more, all);
        final = subst (λ (l : Line). 1 ≤ seen_of w (line_number s l)) final_is second;
      }

-- the units of a line that are seen are sound in their flight
module _ (facts : FlightFacts) (s : FlightSizes) (is : IsOfFlight facts s) where
  pub line_below : (number : ℕ) → number < lines s → number < (flight_meaning (flight_in facts)).lines
  unfolding meaning_of
  line_below number less = subst (λ (t : FlightSizes). number < lines t) is.sizes less

  sound_is : (l : Line) (x : ℕ) → IsLine s l
      → (flight_meaning (flight_in facts)).sound (line_number s l) x ≡ is_sound (flight_in facts) l x
  unfolding meaning_of
  sound_is l x line =
      ap (λ (t : FlightSizes). is_sound (flight_in facts) (line_at t (line_number s l)) x) (sym is.sizes)
      ∙ ap (λ (m : Line). is_sound (flight_in facts) m x) (line_again s l line)

  pub unit_sound : {F : Type 0} (v : View F) (l : Line) (x : ℕ) → IsLine s l
      → AreAllSound (flight_meaning (flight_in facts)) v → x < seen_of v (line_number s l)
      → is_sound (flight_in facts) l x ≡ true
  unit_sound v l x line all less = sym (sound_is l x line) ∙ all (line_number s l) x less
