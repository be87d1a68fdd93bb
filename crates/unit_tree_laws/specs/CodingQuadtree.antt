-- Names of coding_quadtree that crates above take from here.
pub use Rattle.unit_trees.specs.CodingQuadtree.{available, judged}
