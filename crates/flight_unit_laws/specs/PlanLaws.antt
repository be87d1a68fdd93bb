-- Names of plan_laws that crates above take from here.
pub use Rattle.known_picture_laws.specs.PlanLaws.{IsPlan}
