-- Names of header_types that crates above take from here.
pub use Rattle.header_types.specs.SequenceParameterSets.{cropped_height, cropped_width}
pub use Rattle.header_types.specs.declared.pps.PpsFields.{PpsFields}
pub use Rattle.header_types.specs.declared.sps.ConformanceWindow.{ConformanceWindow}
pub use Rattle.header_types.specs.declared.sps.PictureFormat.{PictureFormat}
pub use Rattle.header_types.specs.declared.sps.SpsFields.{SpsFields}
