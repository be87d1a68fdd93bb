use Rattle.std.proofs.Common.{rules, ◌≡◌, ◌<◌, ◌≤◌, length, true, refl, arith}
use Rattle.std.proofs.lemmas.Option.{slice_get_within}
use Rattle.header_types.specs.PictureParameterSet.{IsPps}
use Rattle.header_types.specs.SequenceParameterSets.{IsSps}
use Rattle.plan_types.specs.Segments.{begins_at}
use Rattle.flight_ranges.specs.Segments.{IsInPlace}
use Rattle.flight_ranges.proofs.InRange.{grown, no_plan, plan_is}
use Rattle.flight_ranges.proofs.plans.is_plan.Goals as goal

pub loop-place-preserved : goal.loop-place-preserved
loop-place-preserved c =
    let yes : c.is_in_place.result ≡ true = search rules in
    grown (λ k s. IsInPlace c.args.plan.now k s) c.args.plan.now.segments c.loop-place.place c.loop-place.invariant
    (λ s has. (c.is_in_place.ensures s has).0 yes)

pub returns-then-not-is_in_place : goal.returns-then-not-is_in_place
returns-then-not-is_in_place c =
    let inside : c.loop-place.place < length c.args.plan.now.segments = search rules in
    no_plan c.args.plan.now c.loop-place.place c.is_in_place.result c.if-not-is_in_place.true inside
    c.is_in_place.ensures

pub returns : goal.returns
returns c =
    let p = c.args.plan.now in
    let sps : IsSps p.sps = search rules in
    let pps : IsPps p.pps = search rules in
    let first : begins_at 0 p.segments ≡ 0 = search rules in
    let some : 0 < length p.segments = search rules in
    let all : length p.segments ≤ c.loop-place.place = search rules in (
      λ e. plan_is p sps pps some first (λ k s has.
          c.loop-place.invariant k s (omega (arith, all, slice_get_within p.segments k s has)) has),
      λ plan. refl,
    )
