-- Names of spec_formats that crates above take from here.
pub use Rattle.spec_reference_pictures.specs.SpecFormats.{Field, FieldValue, Format, Give, Header, One, Refuse, Then}
pub use Rattle.spec_reference_pictures.specs.SpecFormats.{bind, read, wanted}
unfoldable pub use Rattle.spec_reference_pictures.specs.SpecFormats.{field_at}
