-- Names of spec_parameter_sets that crates above take from here.
unfoldable pub use Rattle.spec_slice_headers.specs.SpecParameterSets.{picture_parameter_set_of}
unfoldable pub use Rattle.spec_slice_headers.specs.SpecParameterSets.{sequence_parameter_set_of}
