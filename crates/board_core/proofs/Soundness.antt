-- What is counted is sound.
use Rattle.std.proofs.Common.{ℕ, ◌≡◌, ◌+◌, ◌<◌, ◌≤◌, Bool, true, List, [], ◌∷◌, inl, inr, get_or, arith, sym, ap}
use Rattle.std.proofs.Common.{subst}
use Rattle.std.proofs.Common.{◌∙◌, Option, Some, None, IfSome, min}
use Rattle.std.proofs.lemmas.Bool.{cases_lt}
use Rattle.flight_plan.specs.Flight.{FlightRows, IsFlight}
use Rattle.hv_base.specs.declared.line.Line.{Line}
use Rattle.board_core.specs.declared.event.Event.{Event}
use Rattle.board_core.specs.declared.event.Event.TheVariants.{Draw, Read, Build, Filter, Fault}
use Rattle.board_core.specs.Places.{full_count, IsLine, unit_of}
use Rattle.board_core.specs.Needs.{read_needs, unit_needs}
use Rattle.board_core.specs.SoundUnits.{AreNeedsSound, IsFirstBad, IsSoundness}
use Rattle.board_core.specs.States.{CoreState, AreCounted, IsBad, IsReady, after, count_of, lesser}
use Rattle.board_core.specs.States.{opening}
use Rattle.board_core.specs.Runs.{AllReady, IsSound, run}
use Rattle.board_core.proofs.Counting.{unit_needs_filter, unit_needs_tree}
use Rattle.board_core.proofs.Steps.{count_cases, good_filter, one_unit, opening_sound, step_sound}

-- all units that are counted are sound
AreCountedSound : FlightRows → (Line → ℕ → Bool) → CoreState → Type 0
AreCountedSound plan sound s = (l : Line) (x : ℕ) → IsLine plan l → x < count_of plan s l → sound l x ≡ true

-- so what is needed and counted is
needs_sound : (plan : FlightRows) (sound : Line → ℕ → Bool) (s : CoreState) (needs : List (Line × ℕ))
    → AreCountedSound plan sound s → AreCounted plan s needs → AreNeedsSound plan sound needs
unfolding AreCountedSound
needs_sound plan sound s needs all counted k d inside line y lt =
    all (get_or needs k d).0 y line (omega (arith, counted k d inside, lt))

-- and a unit that isn't bad, whose needs are counted, and with it the units before it in its line
next_sound : (plan : FlightRows) (sound : Line → ℕ → Bool) (s : CoreState) (l : Line) (x : ℕ) → IsSoundness plan sound
    → AreCountedSound plan sound s → IsLine plan l → x < full_count plan l → x ≤ count_of plan s l
    → ¬ IsBad plan (unit_of plan l x) → AreCounted plan s (unit_needs plan l x) → sound l x ≡ true
unfolding AreCountedSound
next_sound plan sound s l x closed all line inside before good counted =
    closed l x line inside good (needs_sound plan sound s (unit_needs plan l x) all counted)
    (λ y lt. all l y line (omega (arith, lt, before)))

-- each event keeps that
step_keeps : (plan : FlightRows) (sound : Line → ℕ → Bool) (s : CoreState) (event : Event) → IsFlight plan
    → IsSoundness plan sound → IsSound plan s → AreCountedSound plan sound s → IsReady plan s event
    → AreCountedSound plan sound (after plan s event)
unfolding AreCountedSound
step_keeps plan sound s Draw flight closed state all ready m y line lt = all m y line lt
step_keeps plan sound s (Read l x) flight closed state all ready m y line lt = all m y line lt
step_keeps plan sound s (Fault u) flight closed state all ready m y line lt = all m y line lt
step_keeps plan sound s (Build l x) flight closed state all ready m y line lt =
    let next = ready.next in
    elim (count_cases plan s l m (x + 1) state next.line line) [
      | inl (same, count_is) ↦
          elim (cases_lt y x) [
            | inl lower ↦ let e = ap (count_of plan s) same in all m y line (omega (arith, e, next.next, lower))
            | inr upper ↦ let at : x ≡ y = omega (arith, count_is, lt, upper) in
                let P : ℕ → Type 0 = λ n. IsBad plan (unit_of plan l n) in
                let good : ¬ IsBad plan (unit_of plan l x) =
                λ bad. state.parsed_good l next.line ready.parsed (subst P next.next bad) in
                let needs : AreCounted plan s (unit_needs plan l x) =
                subst (AreCounted plan s) (sym (unit_needs_tree plan l x next.phase)) ready.needs in
                let now : sound l x ≡ true =
                next_sound plan sound s l x closed all next.line next.left (omega (arith, next.next)) good needs in
                ap (λ (k : Line). sound k y) same ∙ (ap (sound l) (sym at) ∙ now)
          ]
      | inr (_, count_is) ↦ all m y line (omega (arith, count_is, lt))
    ]
step_keeps plan sound s (Filter l) flight closed state all ready m y line lt =
    elim (count_cases plan s l m 1 state ready.line line) [
      | inl (same, count_is) ↦ let at : 0 ≡ y = omega (arith, count_is, lt) in
          let inside : 0 < full_count plan l = omega (arith, one_unit plan l ready.phase) in
          let good = good_filter plan l 0 flight ready.line ready.phase inside in
          let needs : AreCounted plan s (unit_needs plan l 0) =
          subst (AreCounted plan s) (sym (unit_needs_filter plan l 0 ready.phase)) ready.needs in
          let now : sound l 0 ≡ true =
          next_sound plan sound s l 0 closed all ready.line inside (omega arith) good needs in
          ap (λ (k : Line). sound k y) same ∙ (ap (sound l) (sym at) ∙ now)
      | inr (_, count_is) ↦ all m y line (omega (arith, count_is, lt))
    ]

run_keeps : (plan : FlightRows) (sound : Line → ℕ → Bool) (s : CoreState) (events : List Event) → IsFlight plan
    → IsSoundness plan sound → IsSound plan s → AreCountedSound plan sound s → AllReady plan s events
    → AreCountedSound plan sound (run plan s events)
run_keeps plan sound s [] flight closed state all ready = all
run_keeps plan sound s (event ∷ events) flight closed state all ready =
    run_keeps plan sound (after plan s event) events flight closed (step_sound plan s event flight state ready.0)
    (step_keeps plan sound s event flight closed state all ready.0) ready.1

-- what is counted behind a list of events is sound
pub run_counts_sound : (plan : FlightRows) (sound : Line → ℕ → Bool) (events : List Event) → IsFlight plan
    → IsSoundness plan sound → AllReady plan (opening plan) events
    → (l : Line) (x : ℕ) → IsLine plan l → x < count_of plan (run plan (opening plan) events) l → sound l x ≡ true
unfolding AreCountedSound
run_counts_sound plan sound events flight closed ready =
    let state = opening_sound plan in
    let none : AreCountedSound plan sound (opening plan) = λ l x line lt.
    let before = state.not_drawn l line (omega arith) in absurd (omega (arith, before.0, lt)) in
    run_keeps plan sound (opening plan) events flight closed state none ready

-- a unit that may be found is the first bad one of its line
pub found_first : (plan : FlightRows) (sound : Line → ℕ → Bool) (s : CoreState) (u : ℕ)
    → ((l : Line) (x : ℕ) → IsLine plan l → x < count_of plan s l → sound l x ≡ true)
    → IsReady plan s (Fault u) → IsFirstBad plan sound u
unfolding AreCountedSound
found_first plan sound s u all (bad, (l, x, place, readable)) =
    record {
      bad = bad;
      line = l;
      x = x;
      place = place;
      needs = needs_sound plan sound s (read_needs plan l x) all readable.needs;
      earlier = λ y lt. all l y place.line (omega (arith, lt, readable.next.next));
    }

-- the lesser of two first bad units is one
first_lesser : (plan : FlightRows) (sound : Line → ℕ → Bool) (u : ℕ) (least : Option ℕ)
    → IfSome least (λ v. IsFirstBad plan sound v) → IsFirstBad plan sound u → IsFirstBad plan sound (lesser u least)
first_lesser plan sound u None before now = now
first_lesser plan sound u (Some v) before now =
    elim (cases_lt u v) [
      | inl lt ↦ let e : u ≡ min u v = omega (arith, lt) in subst (IsFirstBad plan sound) e now
      | inr le ↦ let e : v ≡ min u v = omega (arith, le) in subst (IsFirstBad plan sound) e before
    ]

least_step : (plan : FlightRows) (sound : Line → ℕ → Bool) (s : CoreState) (event : Event)
    → AreCountedSound plan sound s → IfSome s.least (λ v. IsFirstBad plan sound v) → IsReady plan s event
    → IfSome (after plan s event).least (λ v. IsFirstBad plan sound v)
unfolding AreCountedSound
least_step plan sound s Draw all before ready = before
least_step plan sound s (Read l x) all before ready = before
least_step plan sound s (Build l x) all before ready = before
least_step plan sound s (Filter l) all before ready = before
least_step plan sound s (Fault u) all before ready =
    first_lesser plan sound u s.least before (found_first plan sound s u all ready)

least_keeps : (plan : FlightRows) (sound : Line → ℕ → Bool) (s : CoreState) (events : List Event) → IsFlight plan
    → IsSoundness plan sound → IsSound plan s → AreCountedSound plan sound s
    → IfSome s.least (λ v. IsFirstBad plan sound v) → AllReady plan s events
    → IfSome (run plan s events).least (λ v. IsFirstBad plan sound v)
least_keeps plan sound s [] flight closed state all before ready = before
least_keeps plan sound s (event ∷ events) flight closed state all before ready =
    least_keeps plan sound (after plan s event) events flight closed (step_sound plan s event flight state ready.0)
    (step_keeps plan sound s event flight closed state all ready.0)
    (least_step plan sound s event all before ready.0) ready.1

-- the least fault behind a list of events is the first bad unit of its line
pub run_least : (plan : FlightRows) (sound : Line → ℕ → Bool) (events : List Event) → IsFlight plan
    → IsSoundness plan sound → AllReady plan (opening plan) events
    → IfSome (run plan (opening plan) events).least (λ v. IsFirstBad plan sound v)
unfolding AreCountedSound
run_least plan sound events flight closed ready =
    let state = opening_sound plan in
    let none : AreCountedSound plan sound (opening plan) = λ l x line lt.
    let before = state.not_drawn l line (omega arith) in absurd (omega (arith, before.0, lt)) in
    least_keeps plan sound (opening plan) events flight closed state none tt ready
