use Rattle.std.proofs.Common.{arith}
use Rattle.spec_output_order.proofs.AtOnce.{marked_length}
use Rattle.output_order.proofs.MarkedPictures.{are_all}
use Rattle.output_order.proofs.marking.all_marked.Goals as goal

pub returns-clause-value : goal.returns-clause-value
returns-clause-value c =
    are_all c.args.dpb.now c.args.marks.now c.loop-i.i c.loop-i.pictures _ (omega arith) c.loop-i.invariant

pub returns-clause-same : goal.returns-clause-same
returns-clause-same c =
    let all = are_all c.args.dpb.now c.args.marks.now c.loop-i.i c.loop-i.pictures _ (omega arith) c.loop-i.invariant in
    rw all (marked_length c.args.dpb.now c.args.marks.now)
