-- Names of flight_packing_laws that crates above take from here.
pub use Rattle.flight_packing_laws.specs.Done.{unit_address}
