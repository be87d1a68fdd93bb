-- Names of picture_filters that crates above take from here.
pub use Rattle.picture_filters.proofs.Formats.{is_planned}
