use Rattle.std.proofs.Common.{sym, ◌∙◌}
use Rattle.std.proofs.lemmas.Bool.{false≢true}
use Rattle.flight_ranges.proofs.Ranges.{all_held, all_planned, range_is}
use Rattle.flight_ranges.proofs.flights.is_in_range.Goals as goal

pub returns-then-are_plans : goal.returns-then-are_plans
returns-then-are_plans c =
    let plans = c.args.plans.now in
    let bases = c.args.bases.now in (
      λ held. range_is plans bases (c.are_plans.ensures.0 c.if-are_plans.true) (c.are_bases_held.ensures.0 held),
      λ range. c.are_bases_held.ensures.1 (all_held plans bases range),
    )

pub returns-else-are_plans : goal.returns-else-are_plans
returns-else-are_plans c = (
  λ yes. absurd (false≢true (sym c.if-are_plans.false ∙ yes)),
  λ range. c.are_plans.ensures.1 (all_planned c.args.plans.now c.args.bases.now range),
)
