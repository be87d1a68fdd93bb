-- Names of spec_decoder that crates above take from here.
pub use Rattle.spec_flights.specs.SpecDecoder.{told}
pub use Rattle.spec_flights.specs.SpecDecoderDecoder.{is_among}
