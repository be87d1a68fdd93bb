-- Names of spec_known_units that crates above take from here.
pub use Rattle.known_unit_laws.specs.SpecKnownUnits.{KnownUnit, behind_step, entries_before, goes_on}
unfoldable pub use Rattle.known_unit_laws.specs.SpecKnownUnits.{between_from}
pub use Rattle.known_unit_laws.specs.SpecKnownUnits.{if_used, known_of, picture_segments}
unfoldable pub use Rattle.known_unit_laws.specs.SpecKnownUnits.{read_in, read_uses}
pub use Rattle.known_unit_laws.specs.SpecKnownUnits.{takes_stored}
unfoldable pub use Rattle.known_unit_laws.specs.SpecKnownUnits.{segment_having, segments_from, unit_read}
unfoldable pub use Rattle.known_unit_laws.specs.SpecKnownUnits.{units_known}
