use Rattle.std.proofs.Common.{◌≡◌, ◌∙◌, true, false, ap, sym, subst}
use Rattle.flight_plan.specs.Flight.{IsFlight}
use Rattle.board_core.specs.Places.{unit_of}
use Rattle.board_core.specs.States.{CoreOf, IsBad}
use Rattle.board_core.proofs.Progress.{left_buildable, left_found, left_readable}
use Rattle.board_core.proofs.core_state.Core.unit_event.Goals as goal

pub returns-then-is_flagged-clause-ready : goal.returns-then-is_flagged-clause-ready
returns-then-is_flagged-clause-ready c =
    let plan = c.args.self.now.plan in
    let flight = subst IsFlight c.plan.ensures c.pictures-pictures.ensures.flight in
    left_buildable plan c.args.self.now.state c.args.line c.count-x.result c.count-x.ensures flight c.requires.line
    c.requires.phase c.requires.drawn c.requires.left c.requires.earlier
    (sym c.is_flagged.ensures ∙ c.if-is_flagged.true)

pub returns-then-is_bad-clause-ready : goal.returns-then-is_bad-clause-ready
returns-then-is_bad-clause-ready c =
    let plan = c.args.self.now.plan in
    let s = c.args.self.now.state in
    let line = c.args.line in
    let x = c.count-x.result in
    let flight = subst IsFlight c.plan.ensures c.pictures-pictures.ensures.flight in
    let readable =
    left_readable plan s line x c.count-x.ensures flight c.requires.line c.requires.phase c.requires.drawn
    c.requires.left c.requires.earlier
    (sym c.is_flagged.ensures ∙ c.if-is_flagged.false) in
    let at : c.unit-unit.result ≡ unit_of plan line x =
    c.unit-unit.ensures.value ∙ ap (λ (o : CoreOf). unit_of o.plan line x) c.self.view_is in
    left_found plan s line x c.unit-unit.result at (c.is_bad.ensures.0 c.if-is_bad.true) readable

pub returns-else-is_bad-clause-ready : goal.returns-else-is_bad-clause-ready
returns-else-is_bad-clause-ready c =
    let plan = c.args.self.now.plan in
    let s = c.args.self.now.state in
    let line = c.args.line in
    let x = c.count-x.result in
    let flight = subst IsFlight c.plan.ensures c.pictures-pictures.ensures.flight in
    let at : c.unit-unit.result ≡ unit_of plan line x =
    c.unit-unit.ensures.value ∙ ap (λ (o : CoreOf). unit_of o.plan line x) c.self.view_is in (
      left_readable plan s line x c.count-x.ensures flight c.requires.line c.requires.phase c.requires.drawn
          c.requires.left c.requires.earlier
          (sym c.is_flagged.ensures ∙ c.if-is_flagged.false),
      λ bad. let t = c.is_bad.ensures.1 (subst (IsBad plan) (sym at) bad) in
          let e : false ≡ true = sym c.if-is_bad.false ∙ t in cc,
    )
