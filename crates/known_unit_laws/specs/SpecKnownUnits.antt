-- Names of spec_known_units that crates above take from here.
pub use Rattle.spec_known_units.specs.InOrder.{AreAllKnown, AreKnownTo, IsAsInOrder}
pub use Rattle.spec_known_units.specs.Known.{Entries, KnownUnit, as_given, behind_step, entries_before}
unfoldable pub use Rattle.spec_known_units.specs.Known.{between_from}
pub use Rattle.spec_known_units.specs.Known.{goes_on, if_used, is_in, known_of, known_units}
unfoldable pub use Rattle.spec_known_units.specs.Known.{known_before}
pub use Rattle.spec_known_units.specs.Known.{picture_segments}
unfoldable pub use Rattle.spec_known_units.specs.Known.{read_in, read_uses, segment_having, segments_from}
pub use Rattle.spec_known_units.specs.Known.{takes_stored}
unfoldable pub use Rattle.spec_known_units.specs.Known.{unit_read, units_known}
