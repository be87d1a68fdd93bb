use Rattle.std.proofs.Common.{rules}
use Rattle.stream_maker.proofs.Codes.{entries_step, entries_done}
use Rattle.stream_maker.proofs.headers.entry_points.Goals as goal

pub loop-k-preserved : goal.loop-k-preserved
loop-k-preserved c =
    entries_step c.loop-k.writer c.number.new.writer _ c.args.offsets.now c.loop-k.k _ c.loop-k-test.true (search rules)
    c.in_ok-number.ensures c.loop-k.invariant

pub returns : goal.returns
returns c =
    entries_done c.loop-k.writer _ c.args.offsets.now c.loop-k.k c.loop-k-test.false c.loop-k.invariant
