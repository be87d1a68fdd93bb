-- Names of spec_boundary_strengths that crates above take from here.
pub use Rattle.spec_picture_filters.specs.SpecBoundaryStrengths.{Beside, UnitPlace, is_filtered}
unfoldable pub use Rattle.spec_picture_filters.specs.SpecBoundaryStrengths.{coded_around, differ}
unfoldable pub use Rattle.spec_picture_filters.specs.SpecBoundaryStrengths.{is_prediction_left, is_prediction_top}
unfoldable pub use Rattle.spec_picture_filters.specs.SpecBoundaryStrengths.{is_transform_left, is_transform_top}
unfoldable pub use Rattle.spec_picture_filters.specs.SpecBoundaryStrengths.{left_strength}
unfoldable pub use Rattle.spec_picture_filters.specs.SpecBoundaryStrengths.{motion_strength, strength, top_strength}
unfoldable pub use Rattle.spec_picture_filters.specs.SpecBoundaryStrengths.{unit_place}
unfoldable pub use Rattle.spec_picture_filters.specs.SpecBoundaryStrengths.{vectors}
