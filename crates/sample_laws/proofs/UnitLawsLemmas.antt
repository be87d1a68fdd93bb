-- Names of unit_laws that crates above take from here.
pub use Rattle.unit_laws.proofs.Formats.{Gives, after_any, always, cond_holds, fixed_gives, give_gives, then_gives}
pub use Rattle.unit_laws.proofs.Formats.{times_gives, truncated_gives, when_gives}
pub use Rattle.unit_laws.proofs.Items.{IsKept}
pub use Rattle.unit_laws.proofs.Pictures.{format-fits}
pub use Rattle.unit_laws.proofs.Predictions.{FitsInter}
pub use Rattle.unit_laws.proofs.Quadtree.{Fits}
pub use Rattle.unit_laws.proofs.Units.{AreKept, OkHolds, step_kept, unit_kept}
