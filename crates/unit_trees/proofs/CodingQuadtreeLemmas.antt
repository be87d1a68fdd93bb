-- Names of coding_quadtree that crates above take from here.
pub use Rattle.coding_quadtree.proofs.Offsets.{unit_same}
