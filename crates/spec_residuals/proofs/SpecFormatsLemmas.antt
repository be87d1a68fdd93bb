-- Names of spec_formats that crates above take from here.
pub use Rattle.spec_cabac.proofs.SpecFormatsLemmas.{again, agree, found, only}
