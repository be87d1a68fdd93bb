use Rattle.std.proofs.Common.{◌++◌, ◌∷◌, [], subst, sym}
use Rattle.std.proofs.lemmas.List.Elements.{All-push}
use Rattle.flight_plan.specs.Flight.{FlightRows, IsFlight, IsTreeUnit}
use Rattle.flight_plan.proofs.plan.FlightPlan.push_bad.Goals as goal

pub invariant_of-self-2 : goal.invariant_of-self-2
invariant_of-self-2 c =
    let ps = c.self.inside.pictures.items in
    let unit = c.args.unit in
    let flight = c.self.invariant.0 in
    let is : IsTreeUnit ps unit =
    subst (λ (f : FlightRows). IsTreeUnit f.pictures unit) (sym c.self.view_is) c.requires in
    let more : IsFlight (record { pictures = ps; bad = c.self.inside.bad.items ++ unit ∷ [] }) =
    record {
      few = flight.few;
      sizes = flight.sizes;
      earlier = flight.earlier;
      bad = All-push (IsTreeUnit ps) c.self.inside.bad.items unit flight.bad is;
    } in
    rw c.in_ok-push.ensures.items (more, c.self.invariant.1, c.self.invariant.2)
