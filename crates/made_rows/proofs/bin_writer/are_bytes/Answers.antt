use Rattle.std.proofs.Common.{arith}
use Rattle.made_rows.proofs.Bytes.{all_bytes}
use Rattle.made_rows.proofs.bin_writer.are_bytes.Goals as goal

pub returns : goal.returns
returns c = all_bytes c.args.bytes.now (λ k inside. c.loop-i.invariant k (omega (arith, c.loop-i-test.false)))
