use Rattle.std.proofs.Common.{true, All, subst, sym}
use Rattle.plan_laws.specs.Plans.{IsPlan}
use Rattle.plan_laws.proofs.Stream.{units_in_range}
use Rattle.flight_laws.proofs.Whole.{are_planned}
use Rattle.flight_laws.proofs.laws.flights_are_in_range.Goals as goal

pub returns : goal.returns
returns c = λ ahead told. subst (All IsPlan) (sym (are_planned ahead told).pictures) (units_in_range true told)
