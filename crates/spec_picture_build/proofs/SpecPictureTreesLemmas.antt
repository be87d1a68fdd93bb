-- Names of spec_picture_trees that crates above take from here.
pub use Rattle.spec_picture_motion.proofs.SpecPictureTreesLemmas.{units_of_picture, units_of_segments}
