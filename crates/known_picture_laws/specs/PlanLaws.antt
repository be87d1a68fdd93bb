-- Names of plan_laws that crates above take from here.
pub use Rattle.spec_flights.specs.PlanLaws.{IsPlan}
