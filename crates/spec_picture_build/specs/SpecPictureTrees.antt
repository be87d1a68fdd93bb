-- Names of spec_picture_trees that crates above take from here.
pub use Rattle.spec_picture_motion.specs.SpecPictureTrees.{Halt, PictureBroken, Progress, SegmentAt, TreeUnit}
pub use Rattle.spec_picture_motion.specs.SpecPictureTrees.{addresses, and_segments, end_of}
unfoldable pub use Rattle.spec_picture_motion.specs.SpecPictureTrees.{before_picture}
pub use Rattle.spec_picture_motion.specs.SpecPictureTrees.{first_column, first_qp, first_row, has_place, in_places}
pub use Rattle.spec_picture_motion.specs.SpecPictureTrees.{pcm_syntax}
unfoldable pub use Rattle.spec_picture_motion.specs.SpecPictureTrees.{inter_syntax, is_available, picture_read}
pub use Rattle.spec_picture_motion.specs.SpecPictureTrees.{qp_bd_offset, segment_at}
unfoldable pub use Rattle.spec_picture_motion.specs.SpecPictureTrees.{picture_shape, picture_units}
pub use Rattle.spec_picture_motion.specs.SpecPictureTrees.{segment_read, segment_syntax}
unfoldable pub use Rattle.spec_picture_motion.specs.SpecPictureTrees.{segment_shape, segments_read}
pub use Rattle.spec_picture_motion.specs.SpecPictureTrees.{slice_start, then_units}
unfoldable pub use Rattle.spec_picture_motion.specs.SpecPictureTrees.{shared_units, slice_syntax}
pub use Rattle.spec_picture_motion.specs.SpecPictureTrees.{unit_given, unit_places}
unfoldable pub use Rattle.spec_picture_motion.specs.SpecPictureTrees.{unit_at, units_read}
pub use Rattle.spec_picture_motion.specs.SpecPictureTrees.{with_segments, with_unit}
