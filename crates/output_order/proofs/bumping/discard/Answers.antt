use Rattle.std.proofs.Common.{arith}
use Rattle.output_order.proofs.Discarded.{one_more}
use Rattle.output_order.proofs.bumping.discard.Goals as goal

pub loop-i-preserved : goal.loop-i-preserved
loop-i-preserved c = record {
  value =
      rw c.mark_not_needed.ensures.value
      (one_more c.args.pictures.now c.loop-i.pictures c.loop-i.i (omega arith) c.loop-i.invariant.value);
  same = omega arith;
}
