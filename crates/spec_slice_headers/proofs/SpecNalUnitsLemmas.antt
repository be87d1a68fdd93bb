-- Names of spec_nal_units that crates above take from here.
pub use Rattle.spec_nal_units.proofs.Going.{told_of-go}
