use Rattle.std.proofs.Common.{rules, arith}
use Rattle.picture_buffer.proofs.Laying.{laid_in}
use Rattle.picture_buffer.proofs.plane.Plane.lay.Goals as goal

pub returns-clause-samples : goal.returns-clause-samples
returns-clause-samples c =
    rw (c.copy.ensures, ← c.self.view_is) (laid_in c.self.inside.width c.self.inside.height c.args.x
    c.args.y _ c.self.inside.samples c.deref_mut.result.now c.args.samples.now (search rules) (search rules)
    c.self.invariant.count (search rules) (search rules) (omega arith))
