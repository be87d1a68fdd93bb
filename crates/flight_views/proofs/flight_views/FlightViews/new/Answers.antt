use Rattle.std.proofs.Common.{ℕ, refl, ap, ◌∙◌}
use Rattle.flight_names.specs.Names.{all_names}
use Rattle.flight_views.proofs.Viewed.{viewed}
use Rattle.flight_views.proofs.flight_views.FlightViews.new.Goals as goal

pub returns : goal.returns
returns c = record {
  view = λ facts stands flight.
      viewed facts c.args.plans.now c.args.bases.now stands _ flight refl refl
      (c.in_ok-names.ensures ∙ ap (λ (n : ℕ). all_names c.args.plans.now n) c.len.ensures.value)
      c.in_ok-frame.ensures c.in_ok-formats.ensures;
}
