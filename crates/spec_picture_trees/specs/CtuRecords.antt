-- Names of ctu_records that crates above take from here.
pub use Rattle.spec_slice_data.specs.CtuRecords.{Ctu, Rectangle}
