-- Names of spec_decoder that crates above take from here.
pub use Rattle.built_rows.specs.SpecDecoder.{is_among, told}
