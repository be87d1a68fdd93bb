use Rattle.picture_buffer.proofs.Formats.{formats_more}
use Rattle.picture_buffer.proofs.bases.Bases.push_shared.Goals as goal

pub invariant_of-self : goal.invariant_of-self
invariant_of-self c = formats_more _ _ _ _ c.push.ensures.items c.self.invariant c.picture.ensures.format
