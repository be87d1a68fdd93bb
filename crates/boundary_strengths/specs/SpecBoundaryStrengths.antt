-- Names of spec_boundary_strengths that crates above take from here.
unfoldable pub use Rattle.spec_boundary_strengths.specs.Places.{unit_place}
pub use Rattle.spec_boundary_strengths.specs.Strengths.{Beside}
unfoldable pub use Rattle.spec_boundary_strengths.specs.Strengths.{coded_around, left_strength, top_strength}
pub use Rattle.spec_boundary_strengths.specs.declared.place.UnitPlace.{UnitPlace}
