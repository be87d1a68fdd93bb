use Rattle.std.proofs.Common.{◌≡◌, sym, subst}
use Rattle.board_core.specs.declared.event.Event.{Event}
use Rattle.board_core.specs.declared.event.Event.TheVariants.{Read, Fault}
use Rattle.board_core.specs.States.{CoreOf, CoreState, IsReady}
use Rattle.board_core.proofs.Steps.{fault_sound_at, read_sound_at}
use Rattle.board_core.proofs.core_state.Core.step.Goals as goal

pub invariant_of-self-in-Read : goal.invariant_of-self-in-Read
invariant_of-self-in-Read c =
    let inside = c.self-in-Read.inside in
    let s : CoreState =
    record { counts = inside.counts.items; parsed = inside.parsed.items; drawn = inside.drawn; least = inside.least } in
    let line = c.in-Read.line in
    let x = c.in-Read.field-1 in
    let ready : IsReady inside.places s c.args.event =
    subst (λ (o : CoreOf). IsReady o.plan o.state c.args.event) (sym c.self-in-Read.view_is) c.requires in
    let is : c.args.event ≡ Read line x = c.in-Read.is in
    read_sound_at inside.places s line x c.ticket-ticket.result c.ticket-ticket.ensures.value c.self-in-Read.invariant
    (subst (λ (e : Event). IsReady inside.places s e) is ready)

pub invariant_of-self-in-Fault : goal.invariant_of-self-in-Fault
invariant_of-self-in-Fault c =
    let inside = c.self-in-Fault.inside in
    let s : CoreState =
    record { counts = inside.counts.items; parsed = inside.parsed.items; drawn = inside.drawn; least = inside.least } in
    let unit = c.in-Fault.unit in
    let ready : IsReady inside.places s c.args.event =
    subst (λ (o : CoreOf). IsReady o.plan o.state c.args.event) (sym c.self-in-Fault.view_is) c.requires in
    let is : c.args.event ≡ Fault unit = c.in-Fault.is in
    fault_sound_at inside.places s unit c.lesser_unit.result c.lesser_unit.ensures c.self-in-Fault.invariant
    (subst (λ (e : Event). IsReady inside.places s e) is ready)
