-- Names of spec_reference_pictures that crates above take from here.
pub use Rattle.spec_reference_pictures.proofs.DerivedSets.{long_marked, set_is, short_marked}
pub use Rattle.spec_reference_pictures.proofs.Entries.{list_0_current, list_1_current}
