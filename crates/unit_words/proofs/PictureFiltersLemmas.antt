-- Names of picture_filters that crates above take from here.
pub use Rattle.unit_build.proofs.PictureFiltersLemmas.{is_planned}
