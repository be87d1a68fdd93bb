use Rattle.std.proofs.Common.{◌≡◌, ◌⊎◌}
use Rattle.progress_words.specs.Passes.{IsPassOf, HasLooked, view}
use Rattle.progress_words.proofs.board.Board.wait_line.Given as goal

abbrev pub invariant-loop : goal.invariant-loop
invariant-loop g l = IsPassOf l.fn.self l.pass × ((view l.pass ≡ view l.fn.pass) ⊎ HasLooked (view l.fn.pass) l.line
    (view l.pass))
