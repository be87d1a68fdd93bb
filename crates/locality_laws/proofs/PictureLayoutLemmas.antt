-- Names of picture_layout that crates above take from here.
pub use Rattle.picture_layout.proofs.Sizes.{covers, four, whole_height, whole_width}
