-- Names of spec_reference_pictures that crates above take from here.
pub use Rattle.spec_output_order.proofs.SpecReferencePicturesLemmas.{list_0_current, list_1_current, long_marked}
pub use Rattle.spec_output_order.proofs.SpecReferencePicturesLemmas.{set_is, short_marked}
