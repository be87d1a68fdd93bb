-- A bad unit of a picture or before it, and where decoding stops then.
use Rattle.std.proofs.Common.{◌≡◌, ℕ, ◌+◌, ◌-◌, ◌*◌, ◌%◌, ◌<◌, ◌≤◌, List, Option, Some, None, length, take}
use Rattle.std.proofs.Common.{refl, subst, arith, inl, inr, mul-le-mul_right}
use Rattle.std.proofs.lemmas.Bool.{cases_lt}
use Rattle.std.proofs.lemmas.Option.{slice_get_within}
use Rattle.hv_base.specs.declared.line.Line.{Line}
use Rattle.hv_base.specs.declared.line.Phase.TheVariants.{B, S}
use Rattle.flight_plan.specs.Flight.{FlightRows, no_picture, picture_at, units_of}
use Rattle.board_core.specs.Places.{IsLine, full_count, line_of, unit_of}
use Rattle.board_core.specs.Runs.{IsLeastBad}
use Rattle.board_core.specs.States.{IsBad}
use Rattle.sample_words.specs.declared.sizes.FlightSizes.{FlightSizes}
use Rattle.sample_words.specs.Sizes.{columns, rows}
use Rattle.sample_words.specs.Words.{line_at}
use Rattle.taken_pictures.specs.SpecFlights.{PlannedFlight}
use Rattle.taken_pictures.specs.SpecFlights.{flight_rows, picture_rows}
use Rattle.progress_words.specs.Core.{fault_in}
use Rattle.progress_words.specs.Faults.{IsFault, NamesBad, unit_in}
use Rattle.flight_lines.specs.Flights.{IsSized, meaning_of}
use Rattle.flight_lines.specs.Numbers.{unit_number, units_a_picture}
use Rattle.flight_lines.specs.Shown.{least_in}
use Rattle.flight_lines.proofs.Laid.{few_numbers}
use Rattle.flight_lines.proofs.Meant.{bad_is_told, told_at}
use Rattle.flight_lines.proofs.Placed.{unit_is_number}
use Rattle.taken_pictures.specs.FlightUnitLaws.{IsPlanned}
use Rattle.taken_pictures.proofs.FlightUnitLawsLemmas.{as_many}
use Rattle.taken_pictures.specs.FlightFacts.{FlightFacts}
use Rattle.taken_pictures.specs.FlightFacts.{board_flight, flight_meaning, sizes_in}
use Rattle.taken_pictures.specs.FlightFacts.{flight_in}
use Rattle.taken_pictures.specs.FlightFacts.{IsOfFlight}
use Rattle.taken_pictures.specs.FlightFacts.{HoldsPictures, StopsByRule}
use Rattle.taken_pictures.proofs.FlightFactsLemmas.{flight_sized}
use Rattle.taken_pictures.proofs.FlightFactsLemmas.{on_board}
use Rattle.taken_flights.specs.Taken.{IsBroken, StopsInside}

-- the last unit of a picture is before those of later ones
last_less : (p k r c : ℕ) → p < k → 1 ≤ r
    → p * (r * c + 3 * r) + (r * c + 2 * r + ((r - 1) * 1 + 0)) < k * (r * c + 3 * r)
last_less p k r c less some =
    let a : ℕ = r * c + 3 * r in
    let more : (p + 1) * a ≤ k * a = mul-le-mul_right a (omega (arith, less)) in
    let step : (p + 1) * a ≡ p * a + a = grind arith in
    omega (arith, more, step, some)

module _ (f : PlannedFlight) (planned : IsPlanned f) where
  abbrev plan : FlightRows
  plan = flight_rows f

  abbrev sizes : FlightSizes
  sizes = sizes_in f.pictures

  sized : IsSized plan sizes
  sized = flight_sized f planned

  -- a picture of the flight has a row
  some_rows : (k : ℕ) → k < length f.pictures → 1 ≤ (picture_at plan k).rows
  some_rows k inside =
      let many = as_many f in
      (sized.flight.sizes k no_picture (omega (arith, inside, many))).some_rows

  high : (k : ℕ) → k < length f.pictures → (picture_at plan k).rows ≡ rows sizes
  high k inside =
      let many = as_many f in
      sized.heights k (omega (arith, inside, many))

  -- the units of the pictures before one
  before_picture : (k : ℕ) → k < length f.pictures → units_of (take k (picture_rows f)) ≡ k * units_a_picture sizes
  before_picture k inside =
      let some = some_rows k inside in
      let line : IsLine plan (line_of B k 0) = omega (arith, some) in
      let number = unit_is_number plan sizes sized (line_of B k 0) 0 line in
      omega (arith, number)

  last_before : (p k : ℕ) → p < k → k < length f.pictures
      → unit_number sizes (line_of S p (rows sizes - 1)) 0 < units_of (take k (picture_rows f))
  last_before p k less inside =
      let some = some_rows k inside in
      let tall = high k inside in
      let last = last_less p k (rows sizes) (columns sizes) less (omega (arith, some, tall)) in
      let before = before_picture k inside in
      omega (arith, last, before)

  -- a number that is told of a line of a picture is that of a unit
  few_last : (p : ℕ) → p < length f.pictures
      → unit_number sizes (line_of S p (rows sizes - 1)) 0 < 576460752303423487
  few_last p inside =
      let some = some_rows p inside in
      let tall = high p inside in
      let l : Line = line_of S p (rows sizes - 1) in
      let line : IsLine plan l = omega (arith, some, tall) in
      let full : 0 < full_count plan l = omega arith in
      subst (λ n. n < 576460752303423487) (unit_is_number plan sizes sized l 0 line)
      (few_numbers plan sizes sized l 0 line full)

  -- a fault that was found before the end of a picture
  pub broken_by : (p word : ℕ) → p < length f.pictures
      → unit_in word < unit_number sizes (line_of S p (rows sizes - 1)) 0 → IsFault (flight_meaning f) word
      → IsBroken f p
  broken_by p word inside before (inl none) =
      let few = few_last p inside in
      absurd (omega (arith, few, before, none))
  broken_by p word inside before (inr bad) = record { word = word; bad = bad; before = before }

  -- a bad unit that a word names
  record HasBad (word : ℕ) : Type 0 where
    pub unit : ℕ
    pub bad : IsBad plan unit
    pub is : unit_in word ≡ unit

  has_bad : (word : ℕ) → NamesBad (flight_meaning f) word → HasBad word
  unfolding meaning_of
  has_bad word names =
      let on = on_board f planned in
      let told = told_at (board_flight f) names.line names.unit names.rule names.bad in
      let few = on.tells.few (line_at sizes names.line) names.unit names.rule told.rule in
      let word_is = names.word_is in
      record {
        unit = unit_of plan (line_at sizes names.line) names.unit;
        bad = bad_is_told (board_flight f) on names.line names.unit names.rule names.bad;
        is = omega (arith, few, word_is);
      }

  -- decoding stops at the least bad unit, which is of the picture or before it
  module _ (given : List ℕ) (p : ℕ) (holds : HoldsPictures f given) (broken : IsBroken f p) where
    abbrev word : ℕ
    word = fault_in (flight_meaning f) given

    inside_by : (u : ℕ) (stops : StopsByRule f u (word % 32)) → u ≤ unit_in broken.word → stops.stops.picture ≤ p
    inside_by u stops least =
        elim (cases_lt p stops.stops.picture) [
          | inl later ↦
              let k : ℕ = stops.stops.picture in
              let last = last_before p k later (slice_get_within f.pictures k stops.stops.plan stops.stops.has) in
              let number = stops.stops.number in
              let before = broken.before in
              absurd (omega (arith, last, number, before, least))
          | inr most ↦ most
        ]

    stops_by : (o : Option ℕ) → least_in word ≡ o → StopsInside f given p
    stops_by None none =
        let bad = has_bad broken.word broken.bad in
        let least : IsLeastBad plan None = subst (IsLeastBad plan) none holds.holds.least in
        absurd (least bad.unit bad.bad)
    stops_by (Some u) is =
        let bad = has_bad broken.word broken.bad in
        let least : IsLeastBad plan (Some u) = subst (IsLeastBad plan) is holds.holds.least in
        let first = least.1 bad.unit bad.bad in
        let unit = bad.is in
        let stops = holds.some u is in
        record {
          unit = u;
          least = is;
          rule = stops;
          inside = inside_by u stops (omega (arith, first, unit));
        }

    pub stops_inside : StopsInside f given p
    stops_inside = stops_by (least_in word) refl

-- the same by the sizes of a flight on a board
pub broken_of : (facts : FlightFacts) (s : FlightSizes) (p word : ℕ) → IsOfFlight facts s
    → p < length (flight_in facts).pictures
    → unit_in word < unit_number s (line_of S p (rows s - 1)) 0
    → IsFault (flight_meaning (flight_in facts)) word → IsBroken (flight_in facts) p
broken_of facts s p word is inside before fault =
    broken_by (flight_in facts) is.planned p word inside
    (subst (λ (t : FlightSizes). unit_in word < unit_number t (line_of S p (rows t - 1)) 0) is.sizes before) fault
