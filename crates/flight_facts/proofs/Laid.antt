-- The sizes by which the words of a flight are laid out.
use Rattle.std.proofs.Common.{◌≡◌, refl, ℕ, ◌<◌, arith, ap, sym, subst, ◌∙◌, List, [], ◌∷◌, length, Some, slice_get}
use Rattle.std.proofs.Common.{inl, inr}
use Rattle.std.proofs.lemmas.Option.{slice_get_cases}
use Rattle.plan_types.specs.declared.picture_plan.PicturePlan.{PicturePlan}
use Rattle.sample_words.specs.declared.sizes.FlightSizes.{FlightSizes}
use Rattle.sample_words.specs.declared.unit_word.UnitWord.{UnitWord}
use Rattle.sample_words.specs.Contents.{expected_word}
use Rattle.flight_unit_laws.specs.SpecFlights.{folded_at}
use Rattle.flight_unit_laws.specs.SpecFlights.{expected, expected_in, flight_sizes, values_in}
use Rattle.line_words.specs.Places.{HasSizes}
use Rattle.flight_facts.specs.declared.flight_facts.FlightFacts.{FlightFacts}
use Rattle.flight_facts.specs.Boards.{board_flight, sizes_in}
use Rattle.flight_facts.specs.Facts.{flight_in}
use Rattle.flight_facts.specs.Flights.{IsOfFlight}
use Rattle.flight_facts.proofs.Sized.{flight_sized, sizes_are}

pub board_sizes : (facts : FlightFacts) (s : FlightSizes) → IsOfFlight facts s
    → HasSizes (board_flight (flight_in facts)) s
board_sizes facts s is = (sym is.sizes, flight_sized (flight_in facts) is.planned)

pub picture_sizes : (facts : FlightFacts) (s : FlightSizes) (k : ℕ) (p : PicturePlan) → IsOfFlight facts s
    → slice_get (flight_in facts).pictures k ≡ Some p
    → s ≡ flight_sizes p.sps (length (flight_in facts).pictures)
picture_sizes facts s k p is has = is.sizes ∙ sizes_are (flight_in facts) is.planned k p has

pictures_of : (ps : List PicturePlan) → (sizes_in ps).pictures ≡ length ps
pictures_of [] = refl
pictures_of (p ∷ later) = refl

pub each_there : (facts : FlightFacts) (s : FlightSizes) (k : ℕ) → IsOfFlight facts s → k < s.pictures
    → (p : PicturePlan) × (slice_get (flight_in facts).pictures k ≡ Some p)
each_there facts s k is less =
    let pictures = (flight_in facts).pictures in
    let as_many : s.pictures ≡ length pictures = ap (λ (t : FlightSizes). t.pictures) is.sizes ∙ pictures_of pictures in
    elim ((slice_get_cases pictures k).1) [
      | inl there ↦ (there.0, there.2)
      | inr past ↦ absurd (omega (arith, past.0, less, as_many))
    ]

pub word_is : (facts : FlightFacts) (s : FlightSizes) (p : PicturePlan) (u : UnitWord) → IsOfFlight facts s
    → slice_get (flight_in facts).pictures u.line.picture ≡ Some p
    → expected (flight_in facts) u
    ≡ expected_word s (λ k. values_in p (folded_at (flight_in facts) k)) u
unfolding expected
word_is facts s p u is has =
    ap (λ o. expected_in (flight_in facts) o u) has
    ∙ ap (λ t. expected_word t (λ k. values_in p (folded_at (flight_in facts) k)) u)
    (sym (picture_sizes facts s u.line.picture p is has))
