-- The pictures so far are drawn.
use Rattle.drawn_pictures.proofs.Drawn.{Drawn}
use Rattle.drawn_pictures.proofs.drawing.draw_pictures.Given as goal

abbrev pub invariant-loop-j : goal.invariant-loop-j
invariant-loop-j l = Drawn l.seed l.j l.bytes.items l.drawing
