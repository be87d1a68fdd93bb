use Rattle.picture_buffer.proofs.Formats.{formats_fewer}
use Rattle.picture_buffer.proofs.bases.Bases.remove.Goals as goal

pub invariant_of-self : goal.invariant_of-self
invariant_of-self c = formats_fewer _ _ _ c.remove.ensures.items c.self.invariant
