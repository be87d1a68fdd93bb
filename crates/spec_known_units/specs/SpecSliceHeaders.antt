-- Names of spec_slice_headers that crates above take from here.
pub use Rattle.spec_picture_trees.specs.SpecSliceHeaders.{slice_qp}
