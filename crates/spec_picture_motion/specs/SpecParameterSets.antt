-- Names of spec_parameter_sets that crates above take from here.
unfoldable pub use Rattle.spec_picture_trees.specs.SpecParameterSets.{picture_scaling_lists}
