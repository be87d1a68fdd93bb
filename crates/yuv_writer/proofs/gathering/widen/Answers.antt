use Rattle.std.proofs.Common.{rules}
use Rattle.yuv_writer.proofs.Rows.{widened}
use Rattle.yuv_writer.proofs.gathering.widen.Goals as goal

pub returns : goal.returns
returns c =
    widened c.args.samples.now c.loop-k.bytes c.loop-k.invariant.count (search rules) (search rules)
