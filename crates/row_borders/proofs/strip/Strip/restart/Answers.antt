use Rattle.std.proofs.Common.{◌*◌}
use Rattle.row_borders.proofs.strip.Strip.restart.Goals as goal

pub invariant_of-self : goal.invariant_of-self
invariant_of-self c = record {
  few = c.self.invariant.few;
  lines = c.restart.ensures.sides (4 * c.self.inside.places) 2 c.self.invariant.lines;
  row = c.restart-2.ensures.sides c.self.inside.places 1 c.self.invariant.row;
  flags = c.fill.ensures.sides c.self.inside.places 1 c.self.invariant.flags;
}
