-- Names of row_borders that crates above take from here.
pub use Rattle.row_borders.proofs.Laid.{laid_above}
pub use Rattle.row_borders.proofs.Next.{is_at_left}
pub use Rattle.row_borders.proofs.Sound.{all_placed}
