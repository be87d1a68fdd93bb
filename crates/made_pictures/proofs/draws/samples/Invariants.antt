use Rattle.made_pictures.proofs.Drawing.{Sampled}
use Rattle.made_pictures.proofs.draws.samples.Given as goal

abbrev pub invariant-loop-i : goal.invariant-loop-i
invariant-loop-i l = Sampled l.i l.fn.generator l.generator l.samples
