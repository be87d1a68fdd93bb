-- Names of spec_picture_trees that crates above take from here.
pub use Rattle.known_unit_laws.specs.SpecPictureTrees.{PictureBroken, SegmentAt, TreeUnit, end_of, first_column}
pub use Rattle.known_unit_laws.specs.SpecPictureTrees.{first_row, has_place, segment_at}
unfoldable pub use Rattle.known_unit_laws.specs.SpecPictureTrees.{picture_shape, segment_shape}
pub use Rattle.known_unit_laws.specs.SpecPictureTrees.{slice_start, unit_places}
