use Rattle.std.proofs.Common.{◌*◌}
use Rattle.row_borders.proofs.strip.Strip.lay_samples.Goals as goal

pub invariant_of-self : goal.invariant_of-self
invariant_of-self c = record {
  few = c.self.invariant.few;
  lines = c.lay.ensures.sides (4 * c.self.inside.places) 2 c.self.invariant.lines;
  row = c.self.invariant.row;
  flags = c.self.invariant.flags;
}
