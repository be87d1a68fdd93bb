-- What the words of a closed board tell of a flight of pictures.
use Rattle.std.proofs.Common.{◌≡◌, refl, ℕ, ◌%◌, List, Option, Some, None, Result, Ok, Err, ap, sym, subst, ◌∙◌}
use Rattle.std.proofs.lemmas.Option.{none-some, same_Some}
use Rattle.hv_base.specs.declared.breach.Breach.{Breach}
use Rattle.plan_types.specs.declared.picture_plan.PicturePlan.{PicturePlan}
use Rattle.breach_laws.specs.SpecPictureTrees.{PictureBroken}
use Rattle.breach_laws.specs.SpecKnownUnits.{KnownUnit, unit_read, units_known}
use Rattle.breach_laws.proofs.Reading.{reading_breaks}
use Rattle.picture_build.specs.SpecPictureBuild.{DecodedPicture}
use Rattle.flight_unit_laws.specs.KnownPictureLaws.{IsDecodedAsKnown, IsFirstBad}
use Rattle.flight_unit_laws.proofs.KnownPictureLaws.{as_known}
use Rattle.board_core.specs.Places.{IsPlaceOf}
use Rattle.board_core.specs.Runs.{IsLeastBad}
use Rattle.progress_words.specs.Core.{fault_in}
use Rattle.flight_unit_laws.specs.SpecFlights.{PlannedFlight, pictures_before}
use Rattle.flight_unit_laws.specs.SpecFlights.{broken_at, broken_by, flight_rows}
use Rattle.flight_unit_laws.specs.Planned.{IsPlanned}
use Rattle.flight_unit_laws.specs.Stops.{StopsDecoding}
use Rattle.flight_unit_laws.proofs.Stops.{none_stops, stops_there}
use Rattle.line_words.specs.FlightLines.{HoldsFlight, IsClosed}
use Rattle.rule_numbers.specs.Rules.{IsDataRule, rule_number}
use Rattle.line_words.specs.FlightLines.{least_in}
use Rattle.line_words.proofs.FlightLinesLemmas.{closed_holds}
use Rattle.flight_facts.specs.Boards.{board_flight, flight_meaning}
use Rattle.flight_facts.specs.Held.{HoldsPictures, StopsByRule}
use Rattle.flight_facts.proofs.Told.{has_place, on_board, same_rule}

module _ (f : PlannedFlight) (planned : IsPlanned f) (given : List ℕ) (holds : HoldsFlight (board_flight f) given) where
  abbrev word : ℕ
  word = fault_in (flight_meaning f) given

  -- what is broken at a unit is a rule on the data of slice segments
  data_rule_by : (p : PicturePlan) (address : ℕ) (b : Breach) (o : Option (Result KnownUnit Breach))
      → unit_read p (units_known p) address ≡ o → broken_by o ≡ Some b → IsDataRule b
  data_rule_by p address b None is e = absurd (none-some b e)
  data_rule_by p address b (Some (Ok known)) is e = absurd (none-some b e)
  data_rule_by p address b (Some (Err breach)) is e =
      reading_breaks p (units_known p) address b (is ∙ ap (λ x. Some (Err x)) (same_Some breach b e))

  data_rule : (p : PicturePlan) (address : ℕ) (b : Breach) → broken_at p address ≡ Some b → IsDataRule b
  unfolding broken_at
  data_rule p address b e = data_rule_by p address b (unit_read p (units_known p) address) refl e

  inside_by : (k : ℕ) (p : PicturePlan) (broken : PictureBroken) (r : Result DecodedPicture PictureBroken)
      → r ≡ Err broken → IsDecodedAsKnown (pictures_before f k) p r → IsFirstBad p broken
  inside_by k p broken r e known = subst (IsDecodedAsKnown (pictures_before f k) p) e known

  stops_by_rule : (u : ℕ) → least_in word ≡ Some u → StopsByRule f u (word % 32)
  stops_by_rule u e =
      let least : IsLeastBad (flight_rows f) (Some u) = subst (IsLeastBad (flight_rows f)) e holds.least in
      let stops : StopsDecoding f u = stops_there f planned.segments u least.0 least.1 in
      let first =
      inside_by stops.picture stops.plan stops.broken _ stops.stops
      (as_known (pictures_before f stops.picture) stops.plan) in
      let there = has_place f stops.picture stops.plan stops.broken.ctu stops.broken.breach stops.has first.inside
      stops.rule in
      let told = holds.rule u e in
      let P : ℕ → Type 0 = λ v. IsPlaceOf (flight_rows f) v told.line told.x in
      let here = subst P stops.number told.place in
      let rule = same_rule f stops.picture stops.broken.ctu stops.broken.breach told.line told.x there here in
      record {
        stops = stops;
        rule = record {
          number = same_Some (rule_number stops.broken.breach) (word % 32) (sym rule ∙ told.rule);
          data_rule = data_rule stops.plan stops.broken.ctu stops.broken.breach stops.rule;
        };
      }

  holding : HoldsPictures f given
  holding = record {
    holds = holds;
    all = λ e. none_stops f (subst (IsLeastBad (flight_rows f)) e holds.least);
    some = stops_by_rule;
  }

pub closed_pictures : (f : PlannedFlight) → IsPlanned f → (given : List ℕ) → IsClosed (flight_meaning f) given
    → HoldsPictures f given
closed_pictures f planned given closed =
    holding f planned given (closed_holds (board_flight f) (on_board f planned) given closed)
