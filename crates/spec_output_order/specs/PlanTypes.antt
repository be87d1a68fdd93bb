-- Names of plan_types that crates above take from here.
pub use Rattle.plan_types.specs.declared.outputs.Outputs.{Outputs}
