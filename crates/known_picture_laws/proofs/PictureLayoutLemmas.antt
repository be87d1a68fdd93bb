-- Names of picture_layout that crates above take from here.
pub use Rattle.locality_laws.proofs.PictureLayoutLemmas.{covers, four, whole_height, whole_width}
