-- Names of spec_formats that crates above take from here.
pub use Rattle.spec_reference_pictures.specs.SpecFormats.{Header, IsLocal, IsSpelledAs, flag, give}
unfoldable pub use Rattle.spec_reference_pictures.specs.SpecFormats.{each, field_at}
pub use Rattle.spec_reference_pictures.specs.SpecFormats.{is_within, optional, ranged, read, refuse, se}
unfoldable pub use Rattle.spec_reference_pictures.specs.SpecFormats.{repeated}
pub use Rattle.spec_reference_pictures.specs.SpecFormats.{se_within, u, ue, ue_to, wanted, when◌then◌else◌, whole}
pub use Rattle.spec_reference_pictures.specs.SpecFormats.{◌>>=◌}
