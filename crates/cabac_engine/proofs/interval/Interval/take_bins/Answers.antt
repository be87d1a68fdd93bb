use Rattle.std.proofs.Common.{sym, subst, ◌≡◌, Some, ◌∙◌, arith}
use Rattle.spec_cabac.specs.Engine.{Engine}
use Rattle.cabac_engine.specs.Steps.{spelled}
use Rattle.cabac_engine.proofs.Bypasses.{bypasses_none, not_spelled}
use Rattle.cabac_engine.proofs.interval.Interval.take_bins.Goals as goal

pub returns-else-has-clause-value : goal.returns-else-has-clause-value
returns-else-has-clause-value c =
    let is = subst (λ (e : Engine). spelled c.args.n e ≡ Some c.args.bins) (sym c.self.view_is) c.requires.spelled in
    let none =
    bypasses_none c.args.n c.self.inside.range c.self.inside.register (sym c.if-has.false ∙ c.has.ensures.value) in
    let no = not_spelled c.args.n c.args.bins _ none is in
    absurd (omega (arith, no))
