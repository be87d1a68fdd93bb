-- Names of board_core that crates above take from here.
pub use Rattle.spec_flights.specs.BoardCore.{Above, Carried, Former, ReadingUses, line_of, width_of}
