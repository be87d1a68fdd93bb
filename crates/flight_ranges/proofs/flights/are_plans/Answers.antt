use Rattle.std.proofs.Common.{rules, ◌≡◌, ◌<◌, ◌≤◌, length, true, refl}
use Rattle.plan_laws.specs.Plans.{IsPlan}
use Rattle.flight_ranges.proofs.InRange.{all_taken, taken_more}
use Rattle.flight_ranges.proofs.flights.are_plans.Goals as goal

pub loop-place-preserved : goal.loop-place-preserved
loop-place-preserved c =
    let yes : c.is_plan_at.result ≡ true = search rules in
    let inside : c.loop-place.place < length c.args.plans.now = search rules in
    taken_more IsPlan c.args.plans.now c.loop-place.place inside c.loop-place.invariant (c.is_plan_at.ensures.0 yes)

pub returns : goal.returns
returns c =
    let past : length c.args.plans.now ≤ c.loop-place.place = search rules in
    (λ e. all_taken IsPlan c.args.plans.now c.loop-place.place past c.loop-place.invariant, λ planned. refl)
