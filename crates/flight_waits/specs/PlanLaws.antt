-- Names of plan_laws that crates above take from here.
pub use Rattle.flight_facts.specs.PlanLaws.{IsPlan}
