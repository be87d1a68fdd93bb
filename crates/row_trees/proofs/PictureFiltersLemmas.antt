-- Names of picture_filters that crates above take from here.
pub use Rattle.unit_words.proofs.PictureFiltersLemmas.{is_planned}
