use Rattle.std.proofs.Common.{sym, subst, ◌∙◌}
use Rattle.spec_cabac.specs.Engine.{IsLive}
use Rattle.cabac_engine.specs.Ahead.{engine}
use Rattle.cabac_engine.proofs.Reading.{Same, same_view}
use Rattle.cabac_engine.proofs.Stepping.{bypass_none, bypasses, bypass_live}
use Rattle.cabac_engine.proofs.interval.Interval.bypass.Goals as goal

pub returns-then-not-has-clause-value : goal.returns-then-not-has-clause-value
returns-then-not-has-clause-value c =
    let e = c.has.ensures in
    let same : Same c.self.inside.register c.has.new.self = record { offset = e.offset; bits = e.bits; at = e.at } in (
      rw (← c.self.view_is)
          (bypass_none (engine c.self.inside.range c.self.inside.register)
          (sym c.if-not-has.true ∙ e.value)),
      same_view c.self.inside.range c.self.inside.register c.has.new.self same ∙ c.self.view_is,
    )

pub returns-clause-value : goal.returns-clause-value
returns-clause-value c =
    let e = c.has.ensures in
    let same : Same c.self.inside.register c.has.new.self = record { offset = e.offset; bits = e.bits; at = e.at } in
    rw (← c.self.view_is)
    (bypasses c.self.inside.range c.self.inside.register c.has.new.self c.halve.new.self c.halve.result
    (sym c.if-not-has.false ∙ e.value) same c.halve.ensures.bin c.halve.ensures.offset c.halve.ensures.bits
    c.halve.ensures.at)

pub returns-clause-live : goal.returns-clause-live
returns-clause-live c =
    let e = c.has.ensures in
    let same : Same c.self.inside.register c.has.new.self = record { offset = e.offset; bits = e.bits; at = e.at } in
    bypass_live c.self.inside.range c.self.inside.register c.has.new.self c.halve.new.self
    (subst IsLive (sym c.self.view_is) c.requires) (sym c.if-not-has.false ∙ e.value) e.inside same
    c.halve.ensures.offset
