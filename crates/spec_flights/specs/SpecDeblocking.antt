-- Names of spec_deblocking that crates above take from here.
pub use Rattle.filter_locality_laws.specs.SpecDeblocking.{Place}
