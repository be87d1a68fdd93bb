use Rattle.std.proofs.Common.{◌≡◌, ap, sym, ◌∙◌, Bool, ◌&&◌}
use Rattle.header_types.specs.SequenceParameterSets.{IsSps}
use Rattle.plan_types.specs.declared.picture_plan.PicturePlan.{PicturePlan}
use Rattle.flight_views.specs.Layouts.{HasSetsOf}
use Rattle.flight_views.proofs.Alike.{all_judged, all_there, judged_more, one_more}
use Rattle.flight_views.proofs.layouts.are_alike.Goals.{else-is_like, then-is_like}
use Rattle.flight_views.proofs.layouts.are_alike.Goals as goal

pub loop-place-preserved : goal.loop-place-preserved
loop-place-preserved c =
    let plans = c.args.plans.now in
    let n = c.loop-place.place in
    let old = c.loop-place.alike in
    let here = c.index-plans-place in
    let both : c.if-is_like.alike ≡ (c.is_like.result && old) =
    elim c.if-is_like.branch [
      | then-is_like w ↦ w.alike-is ∙ ap (λ (b : Bool). b && old) (sym w.if-is_like.true)
      | else-is_like w ↦
          w.alike-is ∙ (w.if-is_like.false ∙ ap (λ (b : Bool). b && old) (sym w.if-is_like.false))
    ] in (
      judged_more (HasSetsOf c.args.first.now) plans n here.result c.is_like.result old c.if-is_like.alike
          c.loop-place-test.true here.is c.is_like.ensures.like c.loop-place.invariant.0 both,
      one_more (λ (p : PicturePlan). IsSps p.sps) plans n here.result c.loop-place-test.true here.is
          c.is_like.ensures.in_range c.loop-place.invariant.1,
    )

pub returns-clause-alike : goal.returns-clause-alike
returns-clause-alike c =
    all_judged (HasSetsOf c.args.first.now) c.args.plans.now c.loop-place.place c.loop-place.alike
    c.loop-place-test.false c.loop-place.invariant.0

pub returns-clause-in_range : goal.returns-clause-in_range
returns-clause-in_range c =
    all_there (λ (p : PicturePlan). IsSps p.sps) c.args.plans.now c.loop-place.place c.loop-place-test.false
    c.loop-place.invariant.1
