use Rattle.spec_made.specs.Draws.{pcm_unit_of}
use Rattle.made_pictures.proofs.Drawing.{Left}
use Rattle.made_pictures.proofs.draws.pcm_units.Given as goal

abbrev pub invariant-loop-i : goal.invariant-loop-i
invariant-loop-i l = Left pcm_unit_of 48 l.i l.fn.generator l.generator l.units.items
