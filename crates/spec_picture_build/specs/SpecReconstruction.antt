-- Names of spec_reconstruction that crates above take from here.
pub use Rattle.spec_reconstruction.specs.Inter.{InterUnit, Pictures, block_predicted_by}
unfoldable pub use Rattle.spec_reconstruction.specs.Inter.{component_predicted}
pub use Rattle.spec_reconstruction.specs.Inter.{inter_sample, motion_weighting}
unfoldable pub use Rattle.spec_reconstruction.specs.Inter.{predicted_by, prediction_laid}
pub use Rattle.spec_reconstruction.specs.Inter.{samples_of}
unfoldable pub use Rattle.spec_reconstruction.specs.Inter.{rectangle_laid, sample_by}
pub use Rattle.spec_reconstruction.specs.Known.{Known, constructed, laid, with_residual}
unfoldable pub use Rattle.spec_reconstruction.specs.Known.{changed}
pub use Rattle.spec_reconstruction.specs.Parameters.{depth_of}
unfoldable pub use Rattle.spec_reconstruction.specs.Prediction.{block_predicted, chroma_of_unit_predicted}
unfoldable pub use Rattle.spec_reconstruction.specs.Prediction.{chroma_predicted}
pub use Rattle.spec_reconstruction.specs.Prediction.{is_fourth, is_inter}
unfoldable pub use Rattle.spec_reconstruction.specs.Prediction.{offered, unit_predicted}
pub use Rattle.spec_reconstruction.specs.Pulses.{sample_of}
unfoldable pub use Rattle.spec_reconstruction.specs.Pulses.{pulses_laid}
pub use Rattle.spec_reconstruction.specs.Sound.{AreSound, BeginsPulses, HasPulses, IsCoded, IsFormat}
unfoldable pub use Rattle.spec_reconstruction.specs.Sound.{ArePulses}
pub use Rattle.spec_reconstruction.specs.Sound.{IsMotion, IsSound, IsSquare, IsVector, least_size}
pub use Rattle.spec_reconstruction.specs.Unit.{Building, before_unit, item_built}
unfoldable pub use Rattle.spec_reconstruction.specs.Unit.{block_constructed, items_built}
pub use Rattle.spec_reconstruction.specs.Unit.{transform_predicted}
unfoldable pub use Rattle.spec_reconstruction.specs.Unit.{unit_built}
pub use Rattle.spec_reconstruction.specs.declared.format.UnitFormat.{UnitFormat}
pub use Rattle.spec_reconstruction.specs.declared.unit_mode.UnitMode.{UnitMode}
