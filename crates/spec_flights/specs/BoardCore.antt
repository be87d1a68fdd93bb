-- Names of board_core that crates above take from here.
pub use Rattle.board_core.specs.Places.{line_of, width_of}
pub use Rattle.board_core.specs.Uses.{Above, Carried, Former, ReadingUses}
