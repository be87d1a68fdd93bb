-- Names of flight_facts that crates above take from here.
pub use Rattle.sample_lines.specs.FlightFacts.{FlightFacts, IsOfFlight, flight_in, flight_meaning, rule_in}
unfoldable pub use Rattle.sample_lines.specs.FlightFacts.{rule_at}
pub use Rattle.sample_lines.specs.FlightFacts.{rule_of, sizes_in}
