-- Names of ctu_records that crates above take from here.
pub use Rattle.ctu_records.specs.declared.offset.ComponentOffset.TheVariants.{Off}
