-- Names of spec_decoded_pictures that crates above take from here.
unfoldable pub use Rattle.flight_facts.specs.SpecDecodedPictures.{decoded_by, samples_filtered}
