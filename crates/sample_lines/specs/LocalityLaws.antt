-- Names of locality_laws that crates above take from here.
pub use Rattle.flight_facts.specs.LocalityLaws.{luma_line}
