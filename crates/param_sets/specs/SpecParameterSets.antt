-- Names of spec_parameter_sets that crates above take from here.
unfoldable pub use Rattle.spec_parameter_sets.specs.PictureScaling.{picture_scaling_lists}
