use Rattle.std.proofs.Common.{◌∙◌, arith}
use Rattle.std.proofs.lemmas.List.{take_all}
use Rattle.picture_buffer.proofs.plane.copy_some.Goals as goal

pub returns : goal.returns
returns g c = c.copy_from_slice.ensures.after ∙ take_all _ _ (omega (arith, c.requires.samples))
