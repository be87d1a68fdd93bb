-- Names of spec_picture_trees that crates above take from here.
pub use Rattle.spec_picture_trees.specs.Picture.{TreeUnit}
pub use Rattle.spec_picture_trees.specs.Places.{first_column, first_row, has_place, is_of_unit}
unfoldable pub use Rattle.spec_picture_trees.specs.Places.{is_available, unit_at}
pub use Rattle.spec_picture_trees.specs.Places.{unit_places}
pub use Rattle.spec_picture_trees.specs.Shapes.{slice_start}
unfoldable pub use Rattle.spec_picture_trees.specs.Shapes.{picture_shape}
