-- Names of spec_known_units that crates above take from here.
pub use Rattle.spec_known_units.specs.Known.{KnownUnit, known_of}
unfoldable pub use Rattle.spec_known_units.specs.Known.{unit_read, units_known}
