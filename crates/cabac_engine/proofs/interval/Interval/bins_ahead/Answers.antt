use Rattle.std.proofs.Common.{sym, ◌∙◌}
use Rattle.cabac_engine.proofs.Bypasses.{bypasses_none, spelled_none}
use Rattle.cabac_engine.proofs.interval.Interval.bins_ahead.Goals as goal

pub returns-then-not-has-clause-value : goal.returns-then-not-has-clause-value
returns-then-not-has-clause-value c =
    rw (← c.self.view_is)
    (spelled_none c.args.n _
    (bypasses_none c.args.n c.self.inside.range c.self.inside.register (sym c.if-not-has.true ∙ c.has.ensures.value)))
