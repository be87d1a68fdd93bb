-- Names of sample_laws that crates above take from here.
pub use Rattle.sample_laws.proofs.Pictures.{built_below}
