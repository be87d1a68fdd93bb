-- Names of spec_cabac that crates above take from here.
pub use Rattle.coding_quadtree.specs.SpecCabac.{Engine, IsLive}
