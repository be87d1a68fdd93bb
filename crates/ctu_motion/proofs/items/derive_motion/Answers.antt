use Rattle.std.proofs.Common.{refl, arith, ◌∙◌}
use Rattle.ctu_motion.specs.Held.{held, held_beneath}
use Rattle.ctu_motion.proofs.Steps.{derived_more, derived_all}
use Rattle.ctu_motion.proofs.items.derive_motion.Goals as goal

pub loop-k-preserved : goal.loop-k-preserved
loop-k-preserved c = record {
  places = λ each. derived_more c.args.slice.now (held_beneath c.args.motion.now) _ c.args.items.now c.loop-k.k _ _
      (held c.loop-k.motion) _ _ c.loop-k-test.true refl c.loop-k.invariant.beneath
      (c.derive_item.ensures.places (each c.loop-k.k _ c.loop-k-test.true)) (c.loop-k.invariant.places each);
  beneath = c.derive_item.ensures.beneath ∙ c.loop-k.invariant.beneath;
}

pub returns-clause-places : goal.returns-clause-places
returns-clause-places c each =
    derived_all c.args.slice.now (held_beneath c.args.motion.now) c.args.items.now c.loop-k.k (held c.loop-k.motion)
    (held c.args.motion.now) (omega (arith, c.loop-k-test.false)) (c.loop-k.invariant.places each)
