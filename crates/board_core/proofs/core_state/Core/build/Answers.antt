use Rattle.std.proofs.Common.{subst, sym}
use Rattle.board_core.specs.States.{CoreOf, CoreState, IsBuildable}
use Rattle.board_core.proofs.Steps.{build_sound_at}
use Rattle.board_core.proofs.core_state.Core.build.Goals as goal

pub invariant_of-self : goal.invariant_of-self
invariant_of-self c =
    let inside = c.self.inside in
    let s : CoreState =
    record { counts = inside.counts.items; parsed = inside.parsed.items; drawn = inside.drawn; least = inside.least } in
    let Ready : CoreOf → Type 0 = λ o. IsBuildable o.plan o.state c.args.line c.args.x in
    build_sound_at inside.places s c.args.line c.args.x c.ticket-ticket.result c.ticket-ticket.ensures.value
    c.self.invariant (subst Ready (sym c.self.view_is) c.requires)
