-- Names of coding_quadtree that crates above take from here.
pub use Rattle.known_unit_laws.proofs.CodingQuadtreeLemmas.{unit_same}
