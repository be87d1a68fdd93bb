use Rattle.std.proofs.Common.{rules, arith}
use Rattle.loop_filters.proofs.Copied.{part_copied}
use Rattle.loop_filters.proofs.copying.copy_part.Goals as goal

pub returns : goal.returns
returns c = λ k.
    part_copied c.args.from c.args.count c.args.to k _ c.args.samples.now c.args.out.now c.copy_from_slice.new.self
    (omega arith) c.requires.from c.requires.to (search rules)
