-- Names of spec_boundary_strengths that crates above take from here.
unfoldable pub use Rattle.spec_boundary_strengths.specs.Edges.{is_prediction_left, is_prediction_top}
unfoldable pub use Rattle.spec_boundary_strengths.specs.Edges.{is_transform_left}
unfoldable pub use Rattle.spec_boundary_strengths.specs.Edges.{is_transform_top}
unfoldable pub use Rattle.spec_boundary_strengths.specs.Motion.{differ, motion_strength, vectors}
unfoldable pub use Rattle.spec_boundary_strengths.specs.Places.{unit_place}
pub use Rattle.spec_boundary_strengths.specs.Strengths.{Beside, is_filtered}
unfoldable pub use Rattle.spec_boundary_strengths.specs.Strengths.{coded_around, left_strength, strength}
unfoldable pub use Rattle.spec_boundary_strengths.specs.Strengths.{top_strength}
pub use Rattle.spec_boundary_strengths.specs.declared.place.UnitPlace.{UnitPlace}
