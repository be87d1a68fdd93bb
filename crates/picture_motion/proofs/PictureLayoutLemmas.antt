-- Names of picture_layout that crates above take from here.
pub use Rattle.picture_layout.proofs.Places.{before, block_begins, block_ends, whole}
