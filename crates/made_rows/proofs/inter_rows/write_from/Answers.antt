use Rattle.made_rows.proofs.Words.{all_from, from_step, none_from}
use Rattle.made_rows.proofs.inter_rows.write_from.Goals as goal

pub loop-k-init : goal.loop-k-init
loop-k-init c = all_from c.args.motion c.args.units.now c.args.writer.now c.args.first c.args.n

pub loop-k-preserved : goal.loop-k-preserved
loop-k-preserved c =
    from_step c.args.motion c.args.units.now c.loop-k.writer c.write_at.new.writer _ c.args.first c.loop-k.k c.args.n
    c.loop-k-test.true c.in_ok-write_at.ensures c.loop-k.invariant

pub returns : goal.returns
returns c =
    none_from c.args.motion c.args.units.now c.loop-k.writer _ c.args.first c.loop-k.k c.args.n c.loop-k-test.false
    c.loop-k.invariant
