use Rattle.std.proofs.Common.{sym, ◌∙◌}
use Rattle.cabac_engine.specs.Ahead.{engine}
use Rattle.cabac_engine.proofs.Reading.{Same, same_view}
use Rattle.cabac_engine.proofs.Stepping.{started_none, starts}
use Rattle.cabac_engine.proofs.interval.Interval.pcm_end.Goals as goal

pub returns-then-not-has-clause-value : goal.returns-then-not-has-clause-value
returns-then-not-has-clause-value c =
    let e = c.has.ensures in
    let same : Same c.self.inside.register c.has.new.self = record { offset = e.offset; bits = e.bits; at = e.at } in (
      rw (← c.self.view_is)
          (started_none (engine c.self.inside.range c.self.inside.register)
          (sym c.if-not-has.true ∙ e.value)),
      same_view c.self.inside.range c.self.inside.register c.has.new.self same ∙ c.self.view_is,
    )

pub returns-clause-value : goal.returns-clause-value
returns-clause-value c =
    let e = c.has.ensures in
    let same : Same c.self.inside.register c.has.new.self = record { offset = e.offset; bits = e.bits; at = e.at } in
    rw (← c.self.view_is)
    (starts c.self.inside.range c.number-offset.result c.at.result c.self.inside.register c.has.new.self
    c.place.new.self same (sym c.if-not-has.false ∙ e.value) c.number-offset.ensures.value c.at.ensures.value
    (c.place.ensures.offset ∙ c.min.ensures) c.place.ensures.bits c.place.ensures.at)
