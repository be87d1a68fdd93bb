-- Names of sample_laws that crates above take from here.
pub use Rattle.picture_build.proofs.SampleLawsLemmas.{built_below}
