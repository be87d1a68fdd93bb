-- Names of spec_reconstruction that crates above take from here.
pub use Rattle.spec_picture_build.specs.SpecReconstruction.{BeginsPulses, Building, HasPulses, InterUnit}
unfoldable pub use Rattle.spec_picture_build.specs.SpecReconstruction.{ArePulses}
pub use Rattle.spec_picture_build.specs.SpecReconstruction.{IsFormat, IsMotion, IsSound, IsVector, Known, UnitFormat}
pub use Rattle.spec_picture_build.specs.SpecReconstruction.{UnitMode, before_unit}
unfoldable pub use Rattle.spec_picture_build.specs.SpecReconstruction.{block_constructed, block_predicted}
pub use Rattle.spec_picture_build.specs.SpecReconstruction.{block_predicted_by}
unfoldable pub use Rattle.spec_picture_build.specs.SpecReconstruction.{changed, chroma_of_unit_predicted}
pub use Rattle.spec_picture_build.specs.SpecReconstruction.{constructed}
unfoldable pub use Rattle.spec_picture_build.specs.SpecReconstruction.{chroma_predicted, component_predicted}
pub use Rattle.spec_picture_build.specs.SpecReconstruction.{depth_of, is_fourth, is_inter, item_built}
unfoldable pub use Rattle.spec_picture_build.specs.SpecReconstruction.{items_built}
pub use Rattle.spec_picture_build.specs.SpecReconstruction.{laid, motion_weighting}
unfoldable pub use Rattle.spec_picture_build.specs.SpecReconstruction.{offered, prediction_laid}
pub use Rattle.spec_picture_build.specs.SpecReconstruction.{samples_of}
unfoldable pub use Rattle.spec_picture_build.specs.SpecReconstruction.{pulses_laid, rectangle_laid, sample_by}
pub use Rattle.spec_picture_build.specs.SpecReconstruction.{transform_predicted}
unfoldable pub use Rattle.spec_picture_build.specs.SpecReconstruction.{unit_built, unit_predicted}
pub use Rattle.spec_picture_build.specs.SpecReconstruction.{with_residual}
