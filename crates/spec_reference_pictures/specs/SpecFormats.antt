-- Names of spec_formats that crates above take from here.
pub use Rattle.spec_formats.specs.Fields.{Field, FieldValue, Header, flag, give, is_within, optional}
unfoldable pub use Rattle.spec_formats.specs.Fields.{each, field_at}
pub use Rattle.spec_formats.specs.Fields.{ranged, read, se, se_within, u, ue, ue_to, value_of, whole, ◌>>=◌}
unfoldable pub use Rattle.spec_formats.specs.Fields.{repeated}
pub use Rattle.spec_formats.specs.Format.{Format, Give, IsSpelledAs, One, Refuse, Then, bind, refuse, wanted}
pub use Rattle.spec_formats.specs.Format.{when◌then◌else◌}
pub use Rattle.spec_formats.specs.Locality.{IsLocal}
