-- Names of spec_formats that crates above take from here.
pub use Rattle.spec_cabac.specs.SpecFormats.{Has, IsReadAgain, IsSpelledAs, Spells, Word, give, wanted}
pub use Rattle.spec_cabac.specs.SpecFormats.{when◌then◌else◌, ◌>>=◌}
