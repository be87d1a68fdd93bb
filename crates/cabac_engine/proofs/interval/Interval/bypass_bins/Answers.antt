use Rattle.std.proofs.Common.{sym, ◌∙◌}
use Rattle.cabac_engine.proofs.Reading.{Same, same_view}
use Rattle.cabac_engine.proofs.Bypasses.{bypasses_none}
use Rattle.cabac_engine.proofs.interval.Interval.bypass_bins.Goals as goal

pub returns-then-not-has-clause-value : goal.returns-then-not-has-clause-value
returns-then-not-has-clause-value c =
    let e = c.has.ensures in
    let same : Same c.self.inside.register c.has.new.self = record { offset = e.offset; bits = e.bits; at = e.at } in (
      rw (← c.self.view_is)
          (bypasses_none c.args.n c.self.inside.range c.self.inside.register
          (sym c.if-not-has.true ∙ e.value)),
      same_view c.self.inside.range c.self.inside.register c.has.new.self same ∙ c.self.view_is,
    )
