-- Names of spec_picture_trees that crates above take from here.
pub use Rattle.spec_known_units.specs.SpecPictureTrees.{Halt, PictureBroken, Progress, SegmentAt, TreeUnit, end_of}
pub use Rattle.spec_known_units.specs.SpecPictureTrees.{first_column, first_row, has_place, is_of_unit, is_there}
pub use Rattle.spec_known_units.specs.SpecPictureTrees.{qp_bd_offset, segment_at}
unfoldable pub use Rattle.spec_known_units.specs.SpecPictureTrees.{picture_read, picture_shape}
pub use Rattle.spec_known_units.specs.SpecPictureTrees.{slice_start, unit_places}
unfoldable pub use Rattle.spec_known_units.specs.SpecPictureTrees.{segment_shape, unit_at}
