use Rattle.made_rows.proofs.Words.{all_ones, ones_step, no_ones_left}
use Rattle.made_rows.proofs.inter_rows.write_ones.Goals as goal

pub loop-i-init : goal.loop-i-init
loop-i-init c = all_ones c.args.writer.now c.args.n

pub loop-i-preserved : goal.loop-i-preserved
loop-i-preserved c =
    ones_step c.loop-i.writer c.bypass.new.self _ c.loop-i.i c.args.n c.loop-i-test.true c.in_ok-bypass.ensures
    c.loop-i.invariant

pub returns : goal.returns
returns c = no_ones_left c.loop-i.writer _ c.loop-i.i c.args.n c.loop-i-test.false c.loop-i.invariant
