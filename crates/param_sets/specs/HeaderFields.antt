-- Names of header_fields that crates above take from here.
pub use Rattle.header_fields.specs.Takes.{Takes}
