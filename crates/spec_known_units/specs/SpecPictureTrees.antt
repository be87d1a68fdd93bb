-- Names of spec_picture_trees that crates above take from here.
pub use Rattle.spec_picture_trees.specs.Picture.{Halt, PictureBroken, Progress, SegmentAt, TreeUnit, and_segments}
pub use Rattle.spec_picture_trees.specs.Picture.{segment_at, segment_read}
unfoldable pub use Rattle.spec_picture_trees.specs.Picture.{before_picture, picture_read}
pub use Rattle.spec_picture_trees.specs.Picture.{then_units, unit_given, with_unit}
unfoldable pub use Rattle.spec_picture_trees.specs.Picture.{segments_read, units_read}
pub use Rattle.spec_picture_trees.specs.Places.{first_column, first_row, has_place, is_of_unit}
unfoldable pub use Rattle.spec_picture_trees.specs.Places.{is_available}
pub use Rattle.spec_picture_trees.specs.Places.{is_there, unit_places}
unfoldable pub use Rattle.spec_picture_trees.specs.Places.{unit_at}
pub use Rattle.spec_picture_trees.specs.Shapes.{end_of, first_qp, pcm_syntax}
unfoldable pub use Rattle.spec_picture_trees.specs.Shapes.{inter_syntax, picture_shape}
pub use Rattle.spec_picture_trees.specs.Shapes.{qp_bd_offset, segment_syntax, slice_start}
unfoldable pub use Rattle.spec_picture_trees.specs.Shapes.{segment_shape}
unfoldable pub use Rattle.spec_picture_trees.specs.Shapes.{slice_syntax}
pub use Rattle.spec_picture_trees.specs.Units.{units_between}
