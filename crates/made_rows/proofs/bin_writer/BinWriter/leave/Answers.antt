use Rattle.std.proofs.Common.{rules}
use Rattle.made_rows.proofs.Bytes.{bytes_are}
use Rattle.made_rows.proofs.bin_writer.BinWriter.leave.Goals as goal

pub returns : goal.returns
returns c = bytes_are c.in_ok-bytes.bytes.items _ (search rules) (search rules)
