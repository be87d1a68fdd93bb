use Rattle.std.proofs.Common.{◌+◌, length, arith, sym, ap, ◌∙◌}
use Rattle.std.proofs.lemmas.Bool.{leb-true}
use Rattle.cabac_engine.specs.Ahead.{engine}
use Rattle.cabac_engine.proofs.Reading.{Same, same_view, numbered, number_none}
use Rattle.cabac_engine.proofs.interval.Interval.pcm_sample.Goals as goal

pub returns-then-not-has-clause-value : goal.returns-then-not-has-clause-value
returns-then-not-has-clause-value c =
    let e = c.has.ensures in
    let same : Same c.self.inside.register c.has.new.self = record { offset = e.offset; bits = e.bits; at = e.at } in (
      rw (← c.self.view_is)
          (number_none c.args.size (engine c.self.inside.range c.self.inside.register)
          (sym (sym c.if-not-has.true ∙ e.value))),
      same_view c.self.inside.range c.self.inside.register c.has.new.self same ∙ c.self.view_is,
    )

pub number-sample-requires-clause-inside : goal.number-sample-requires-clause-inside
number-sample-requires-clause-inside c =
    let e = c.has.ensures in
    let enough = leb-true _ _ (sym (sym c.if-not-has.false ∙ e.value)) in
    omega (arith, enough, e.inside, e.at, ap length e.bits)

pub returns-clause-value : goal.returns-clause-value
returns-clause-value c =
    let e = c.has.ensures in
    let same : Same c.self.inside.register c.has.new.self = record { offset = e.offset; bits = e.bits; at = e.at } in
    rw (← c.self.view_is)
    (numbered c.args.size c.self.inside.range c.number-sample.result _ c.self.inside.register c.has.new.self
    c.place.new.self same (sym c.if-not-has.false ∙ e.value) c.number-sample.ensures.value
    (ap (λ k. k + c.from.result) c.at.ensures.value ∙ ap (λ k. c.has.new.self.at + k) c.from.ensures)
    (c.place.ensures.offset ∙ c.offset.ensures.value ∙ e.offset) c.place.ensures.bits c.place.ensures.at)
