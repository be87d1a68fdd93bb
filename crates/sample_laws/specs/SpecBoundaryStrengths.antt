-- Names of spec_boundary_strengths that crates above take from here.
pub use Rattle.spec_decoded_pictures.specs.SpecBoundaryStrengths.{Beside}
unfoldable pub use Rattle.spec_decoded_pictures.specs.SpecBoundaryStrengths.{differ, left_strength, motion_strength}
unfoldable pub use Rattle.spec_decoded_pictures.specs.SpecBoundaryStrengths.{strength, top_strength, unit_place}
unfoldable pub use Rattle.spec_decoded_pictures.specs.SpecBoundaryStrengths.{vectors}
