use Rattle.std.proofs.Common.{rules}
use Rattle.yuv_writer.proofs.Rows.{narrowed}
use Rattle.yuv_writer.proofs.gathering.narrow.Goals as goal

pub returns : goal.returns
returns c = narrowed c.args.samples.now c.loop-k.bytes c.loop-k.invariant.count (search rules)
