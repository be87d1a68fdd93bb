-- Names of spec_formats that crates above take from here.
pub use Rattle.spec_reference_pictures.proofs.SpecFormatsLemmas.{agree, local-read}
