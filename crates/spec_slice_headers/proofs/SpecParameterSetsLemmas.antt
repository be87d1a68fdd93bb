-- Names of spec_parameter_sets that crates above take from here.
pub use Rattle.spec_parameter_sets.proofs.Ranges.{data_can_be}
