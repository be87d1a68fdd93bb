use Rattle.std.proofs.Common.{◌∙◌, ap, subst, sym}
use Rattle.flight_plan.specs.Flight.{IsFlight}
use Rattle.board_core.specs.States.{CoreOf, CoreState, IsFilterable}
use Rattle.board_core.proofs.Steps.{filter_sound_at}
use Rattle.board_core.proofs.core_state.Core.filter.Goals as goal

pub invariant_of-self : goal.invariant_of-self
invariant_of-self c =
    let inside = c.self.inside in
    let s : CoreState =
    record { counts = inside.counts.items; parsed = inside.parsed.items; drawn = inside.drawn; least = inside.least } in
    let Ready : CoreOf → Type 0 = λ o. IsFilterable o.plan o.state c.args.line in
    let plan_is = ap (λ (o : CoreOf). o.plan) (sym c.self.view_is) in
    let flight : IsFlight inside.places =
    subst IsFlight (c.plan.ensures ∙ plan_is) c.pictures-pictures.ensures.flight in
    filter_sound_at inside.places s c.args.line c.ticket-ticket.result c.ticket-ticket.ensures.value flight
    c.self.invariant (subst Ready (sym c.self.view_is) c.requires)
