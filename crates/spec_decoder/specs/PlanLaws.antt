-- Names of plan_laws that crates above take from here.
pub use Rattle.plan_laws.specs.Plans.{IsPlan}
