use Rattle.std.proofs.Common.{get_or, refl, ap}
use Rattle.plan_types.specs.declared.picture_plan.PicturePlan.{PicturePlan}
use Rattle.flight_views.proofs.Viewed.{picture_viewed}
use Rattle.flight_views.proofs.flight_views.FlightViews.picture.Goals as goal

pub returns-clause-picture : goal.returns-clause-picture
returns-clause-picture c = λ facts view.
    let plan = ap (λ (p : PicturePlan). get_or c.args.self.now.plans.now c.args.place p) c.index-self-place.is in
    picture_viewed c.args.self.now facts view c.args.place c.requires.inside _ c.index.result.now refl refl plan
    c.before-2.ensures c.index.ensures refl refl refl refl
