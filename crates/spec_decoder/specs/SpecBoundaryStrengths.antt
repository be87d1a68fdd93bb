-- Names of spec_boundary_strengths that crates above take from here.
pub use Rattle.spec_decoded_pictures.specs.SpecBoundaryStrengths.{Beside, UnitPlace, is_filtered}
unfoldable pub use Rattle.spec_decoded_pictures.specs.SpecBoundaryStrengths.{coded_around}
unfoldable pub use Rattle.spec_decoded_pictures.specs.SpecBoundaryStrengths.{is_prediction_left, is_prediction_top}
unfoldable pub use Rattle.spec_decoded_pictures.specs.SpecBoundaryStrengths.{is_transform_left, is_transform_top}
unfoldable pub use Rattle.spec_decoded_pictures.specs.SpecBoundaryStrengths.{left_strength}
unfoldable pub use Rattle.spec_decoded_pictures.specs.SpecBoundaryStrengths.{strength, top_strength, unit_place}
