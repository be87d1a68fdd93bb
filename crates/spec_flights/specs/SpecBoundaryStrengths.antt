-- Names of spec_boundary_strengths that crates above take from here.
pub use Rattle.spec_decoder.specs.SpecBoundaryStrengths.{Beside, UnitPlace, is_filtered}
unfoldable pub use Rattle.spec_decoder.specs.SpecBoundaryStrengths.{coded_around}
unfoldable pub use Rattle.spec_decoder.specs.SpecBoundaryStrengths.{is_prediction_left, is_prediction_top}
unfoldable pub use Rattle.spec_decoder.specs.SpecBoundaryStrengths.{is_transform_left}
unfoldable pub use Rattle.spec_decoder.specs.SpecBoundaryStrengths.{is_transform_top, left_strength, strength}
unfoldable pub use Rattle.spec_decoder.specs.SpecBoundaryStrengths.{top_strength}
unfoldable pub use Rattle.spec_decoder.specs.SpecBoundaryStrengths.{unit_place}
