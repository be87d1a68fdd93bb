-- Names of spec_deblocking that crates above take from here.
pub use Rattle.spec_flights.specs.SpecDeblocking.{Place}
