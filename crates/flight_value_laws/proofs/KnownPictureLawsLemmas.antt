-- Names of known_picture_laws that crates above take from here.
pub use Rattle.known_picture_laws.proofs.FilterData.{folded_motion}
pub use Rattle.known_picture_laws.proofs.Order.{in_order}
pub use Rattle.known_picture_laws.proofs.Reading.{as_known}
