-- Names of coding_quadtree that crates above take from here.
pub use Rattle.unit_tree_laws.proofs.CodingQuadtreeLemmas.{unit_same}
