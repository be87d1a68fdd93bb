use Rattle.std.proofs.Common.{refl, arith}
use Rattle.boundary_strengths.proofs.Steps.{marked_more, marked_all}
use Rattle.boundary_strengths.proofs.marks.marks_of.Goals as goal

pub loop-k-preserved : goal.loop-k-preserved
loop-k-preserved c = λ each. marked_more c.args.pcm_disabled c.args.items.now c.loop-k.k _ _ c.loop-k.marks _
    c.loop-k-test.true refl (c.add_item.ensures (each c.loop-k.k _ c.loop-k-test.true)) (c.loop-k.invariant each)

pub returns : goal.returns
returns c = λ each. marked_all c.args.pcm_disabled c.args.items.now c.loop-k.k c.loop-k.marks
    (omega (arith, c.loop-k-test.false)) (c.loop-k.invariant each)
