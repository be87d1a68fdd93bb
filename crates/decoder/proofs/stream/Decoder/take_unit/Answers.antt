use Rattle.std.proofs.Common.{Result, Ok, sym, ap, subst, ◌∙◌}
use Rattle.hv_base.specs.declared.outcome.Outcome.{Outcome}
use Rattle.nal_stream.specs.declared.answer.Next.{Next}
use Rattle.nal_stream.specs.Framing.{IsNext, StandsFor, with_answer}
use Rattle.picture_plan.specs.Plans.{Plans, stop_of}
use Rattle.decoder.specs.Headline.{change_of}
use Rattle.decoder.specs.Taking.{TakesUnit}
use Rattle.decoder.specs.declared.stream.Taken.{Taken}
use Rattle.decoder.proofs.Tellings.{history, tells-more, tells-end}
use Rattle.decoder.proofs.Takings.{Ahead, ahead_of, answer-less, ended-ahead, exit-taken, none-left}
use Rattle.decoder.proofs.Takings.{reached-none, reached-unit, stopped-unfed}
use Rattle.decoder.proofs.stream.Decoder.take_unit.Goals as goal

pub returns-in-More-clause-taken : goal.returns-in-More-clause-taken
returns-in-More-clause-taken g c = λ ended bytes given later gained t h.
    let next = c.in-Ok.ensures.value (history given ended bytes) t.stands in
    let left = tells-more c.args.framer.now ended bytes given later t
    (subst (IsNext (history given ended bytes)) c.in-More.is next.0) in
    reached-none g.O.Sink.contents g.O.Sink.faults c.args.options c.args.out.now c.next.new.self c.args.self.now ended
    bytes given _ gained
    (none-left c.args.framer.now c.next.new.self ended bytes given later t left
    (subst (λ (n : Next). StandsFor c.next.new.self (with_answer (history given ended bytes) n)) c.in-More.is next.1)) h

pub returns-in-End-clause-taken : goal.returns-in-End-clause-taken
returns-in-End-clause-taken g c = λ ended bytes given later gained t h.
    let next = c.in-Ok.ensures.value (history given ended bytes) t.stands in
    let left = tells-end c.args.framer.now ended bytes given later t
    (subst (IsNext (history given ended bytes)) c.in-End.is next.0) in
    reached-none g.O.Sink.contents g.O.Sink.faults c.args.options c.args.out.now c.next.new.self c.args.self.now ended
    bytes given _ gained
    (none-left c.args.framer.now c.next.new.self ended bytes given later t left
    (subst (λ (n : Next). StandsFor c.next.new.self (with_answer (history given ended bytes) n)) c.in-End.is next.1)) h

pub returns-in_ok-plan_unit-in_default-next-clause-taken : goal.returns-in_ok-plan_unit-in_default-next-clause-taken
returns-in_ok-plan_unit-in_default-next-clause-taken g c =
    λ ended bytes given later gained t h.
    let next = c.in-Ok.ensures.value (history given ended bytes) t.stands in
    let a : Ahead c.next.new.self ended bytes c.in-Ok.next given later =
    ahead_of c.args.framer.now c.next.new.self ended bytes given later c.in-Ok.next t c.in_default-next.not-More
    c.in_default-next.not-End next.0 next.1 in (
      a.rest,
      reached-unit c.args.options
          (change_of g.O.Sink.contents g.O.Sink.faults c.args.out.now c.plan_unit.new.out) c.next.new.self
          c.args.self.now c.plan_unit.new.self ended bytes gained given later c.in-Ok.next h a
          c.in_ok-plan_unit-in_default-next.ensures,
    )

pub returns-in_ok-plan_unit-in_default-next-clause-less : goal.returns-in_ok-plan_unit-in_default-next-clause-less
returns-in_ok-plan_unit-in_default-next-clause-less g c =
    let p = c.in_ok-plan_unit-in_default-next.ensures in
    answer-less c.args.framer.now c.next.new.self c.in-Ok.next c.args.self.now.planner c.in_default-next.not-More
    c.in_default-next.not-End (ap (λ (q : Plans). stop_of q.next) p.left ∙ p.going) c.in-Ok.ensures.answers

pub returns-in_err-plan_unit-in_default-next-clause-taken : goal.returns-in_err-plan_unit-in_default-next-clause-taken
returns-in_err-plan_unit-in_default-next-clause-taken g c =
    λ ended bytes given later gained t h.
    let next = c.in-Ok.ensures.value (history given ended bytes) t.stands in
    let a : Ahead c.next.new.self ended bytes c.in-Ok.next given later =
    ahead_of c.args.framer.now c.next.new.self ended bytes given later c.in-Ok.next t c.in_default-next.not-More
    c.in_default-next.not-End next.0 next.1 in
    let over = c.in_err-plan_unit-in_default-next.ensures in
    subst (TakesUnit c.args.options
    (change_of g.O.Sink.contents g.O.Sink.faults c.args.out.now c.plan_unit.new.out) c.next.new.self
    c.plan_unit.new.self ended bytes gained)
    (sym (exit-taken c.from_residual.result c.in_err-plan_unit-in_default-next.field-0.0 c.from_residual.ensures.1)) (
      over.0,
      ended-ahead c.args.options
          (change_of g.O.Sink.contents g.O.Sink.faults c.args.out.now c.plan_unit.new.out) c.args.framer.now
          c.next.new.self c.args.self.now ended bytes gained given later c.in-Ok.next
          c.in_err-plan_unit-in_default-next.field-0.0 t h a (over.1 ended a.told a.rest a.is h.going),
    )

pub returns-in_default-clause-taken : goal.returns-in_default-clause-taken
returns-in_default-clause-taken g c = λ ended bytes given later gained t h.
    stopped-unfed g.O.Sink.contents g.O.Sink.faults c.args.options c.args.out.now c.args.self.now given later gained
    ended bytes h t.told
