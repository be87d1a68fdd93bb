-- Names of spec_formats that crates above take from here.
pub use Rattle.spec_formats.proofs.Agreement.{agree}
pub use Rattle.spec_formats.proofs.Locality.{local-read}
pub use Rattle.spec_formats.proofs.Values.{CanBe, can_be}
