-- Names of spec_picture_trees that crates above take from here.
pub use Rattle.spec_picture_trees.specs.Picture.{PictureBroken, Progress, TreeUnit}
unfoldable pub use Rattle.spec_picture_trees.specs.Picture.{picture_read}
pub use Rattle.spec_picture_trees.specs.Places.{first_column, first_row}
unfoldable pub use Rattle.spec_picture_trees.specs.Places.{unit_at}
pub use Rattle.spec_picture_trees.specs.Shapes.{pcm_syntax, slice_start}
unfoldable pub use Rattle.spec_picture_trees.specs.Shapes.{picture_shape}
