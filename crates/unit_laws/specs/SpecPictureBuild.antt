-- Names of spec_picture_build that crates above take from here.
pub use Rattle.spec_picture_build.specs.Border.{Samples, is_inside}
unfoldable pub use Rattle.spec_picture_build.specs.Border.{has_sample, is_available, known_beside}
pub use Rattle.spec_picture_build.specs.Border.{unit_column, unit_line, unit_side}
unfoldable pub use Rattle.spec_picture_build.specs.Border.{sample_beside}
pub use Rattle.spec_picture_build.specs.Built.{BuiltPicture, added_in, built_of, is_of_unit, no_picture}
unfoldable pub use Rattle.spec_picture_build.specs.Built.{picture_built, samples_added, unit_added, unit_inter}
unfoldable pub use Rattle.spec_picture_build.specs.Built.{unit_laid}
pub use Rattle.spec_picture_build.specs.Built.{with_unit}
unfoldable pub use Rattle.spec_picture_build.specs.Built.{units_built}
unfoldable pub use Rattle.spec_picture_build.specs.Format.{unit_format}
pub use Rattle.spec_picture_build.specs.Output.{has_two_bytes, sample_bytes}
pub use Rattle.spec_picture_build.specs.References.{DecodedPicture, format_height, format_width, greatest_sample}
pub use Rattle.spec_picture_build.specs.References.{motions_of}
unfoldable pub use Rattle.spec_picture_build.specs.References.{reference_sample}
