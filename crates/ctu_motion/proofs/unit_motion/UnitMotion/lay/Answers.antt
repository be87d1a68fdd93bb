use Rattle.std.proofs.Common.{rules, refl}
use Rattle.ctu_motion.proofs.Cells.{held_over, whole_laid}
use Rattle.ctu_motion.proofs.unit_motion.UnitMotion.lay.Goals as goal

pub returns-clause-places : goal.returns-clause-places
returns-clause-places c =
    held_over _ _ c.self.inside.places _ c.args.block c.args.motion _ _ _ _ (search rules) refl c.from.ensures
    c.from-2.ensures c.from-3.ensures c.from-4.ensures c.requires.x c.requires.y c.fill_block.ensures

pub invariant_of-self : goal.invariant_of-self
invariant_of-self c = λ whole i j li lj.
    whole_laid _ _ _ c.args.block _ _ _ _ c.from.ensures c.from-2.ensures c.from-3.ensures c.from-4.ensures c.requires.x
    c.requires.y c.fill_block.ensures (search rules) (search rules) i j li lj
