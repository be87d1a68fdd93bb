-- Names of locality_laws that crates above take from here.
pub use Rattle.locality_laws.proofs.Moved.{motion_is_its_step}
