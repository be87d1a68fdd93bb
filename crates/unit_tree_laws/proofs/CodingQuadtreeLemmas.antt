-- Names of coding_quadtree that crates above take from here.
pub use Rattle.unit_trees.proofs.CodingQuadtreeLemmas.{unit_same}
