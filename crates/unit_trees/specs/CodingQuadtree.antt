-- Names of coding_quadtree that crates above take from here.
pub use Rattle.coding_quadtree.specs.Beside.{available}
pub use Rattle.coding_quadtree.specs.Judged.{Follows, judged}
pub use Rattle.coding_quadtree.specs.Next.{StepsTo, next_between}
