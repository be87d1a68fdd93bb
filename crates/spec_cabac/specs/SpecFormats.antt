-- Names of spec_formats that crates above take from here.
pub use Rattle.spec_formats.specs.Format.{Give, Has, IsReadAgain, IsSpelledAs, One, Refuse, Spells, Then, Word, bind}
pub use Rattle.spec_formats.specs.Format.{give, refuse, wanted, when◌then◌else◌, ◌>>=◌}
