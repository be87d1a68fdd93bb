-- A sound state that ends has the least bad unit as its least fault.
use Rattle.std.proofs.Common.{ℕ, ◌≡◌, List, Option, Some, None, inl, inr, arith, ap, subst, IfSome}
use Rattle.std.proofs.lemmas.Bool.{cases_lt}
use Rattle.flight_plan.specs.Flight.{FlightRows, IsFlight, IsTreeUnit}
use Rattle.board_core.specs.declared.event.Event.{Event}
use Rattle.board_core.specs.Places.{unit_of}
use Rattle.board_core.specs.States.{CoreState, opening, IsBad, IsBefore}
use Rattle.board_core.specs.Runs.{AllReady, IsSound, IsEnded, IsLeastBad, run}
use Rattle.board_core.proofs.Units.{tree_place}
use Rattle.board_core.proofs.Steps.{opening_sound, run_sound}

-- a bad unit is a coding tree unit of the flight
bad_tree : (plan : FlightRows) (u : ℕ) → IsFlight plan → IsBad plan u → IsTreeUnit plan.pictures u
bad_tree plan u flight bad = let (k, inside, is) = bad in subst (IsTreeUnit plan.pictures) is (flight.bad k u inside)

-- a bad unit isn't before the least fault of a state that ends
not_before : (plan : FlightRows) (s : CoreState) (u : ℕ) → IsFlight plan → IsSound plan s → IsEnded plan s
    → IsBad plan u → IsBefore u s.least → ⊥
not_before plan s u flight sound ended bad before =
    let (l, x, place, _) = tree_place plan u (bad_tree plan u flight bad) in
    let first : IsBefore (unit_of plan l x) s.least = subst (λ v. IsBefore v s.least) place.unit before in
    let counted = ended l x place.line place.inside first in
    sound.good l x place.line counted (subst (IsBad plan) place.unit bad)

least_of : (plan : FlightRows) (least : Option ℕ) → ((u : ℕ) → IsBad plan u → IsBefore u least → ⊥)
    → ((v : ℕ) → least ≡ Some v → IsBad plan v) → IsLeastBad plan least
least_of plan None not_early is_bad = λ u bad. not_early u bad tt
least_of plan (Some v) not_early is_bad =
    (is_bad v (λ _. Some v), λ u bad. elim (cases_lt u v) [ inl h ↦ absurd (not_early u bad h) | inr h ↦ h ])

pub ended_least : (plan : FlightRows) (s : CoreState) → IsFlight plan → IsSound plan s → IsEnded plan s
    → IsLeastBad plan s.least
ended_least plan s flight sound ended =
    least_of plan s.least (λ u bad before. not_before plan s u flight sound ended bad before)
    (λ v e. let P : Option ℕ → Type 0 = λ o. IfSome o (λ u. IsBad plan u) in subst P e sound.fault)

-- there is one least bad unit, or none
pub same_least : (plan : FlightRows) (a b : Option ℕ) → IsLeastBad plan a → IsLeastBad plan b → a ≡ b
same_least plan None None p q = λ _. None
same_least plan None (Some v) p q = absurd (p v q.0)
same_least plan (Some u) None p q = absurd (q u p.0)
same_least plan (Some u) (Some v) p q =
    let low = p.1 v q.0 in let high = q.1 u p.0 in let e : u ≡ v = omega arith in ap (λ n. Some n) e

-- what a list of events that ends leaves
pub run_ends : (plan : FlightRows) (events : List Event) → IsFlight plan → AllReady plan (opening plan) events
    → IsEnded plan (run plan (opening plan) events) → IsLeastBad plan (run plan (opening plan) events).least
run_ends plan events flight ready ended =
    ended_least plan (run plan (opening plan) events) flight
    (run_sound plan (opening plan) events flight (opening_sound plan) ready) ended
