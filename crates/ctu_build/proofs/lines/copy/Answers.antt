use Rattle.std.proofs.Common.{rules, refl, length, arith}
use Rattle.ctu_build.proofs.Writing.{part_at}
use Rattle.ctu_build.proofs.lines.copy.Goals as goal

pub returns : goal.returns
returns c = λ q.
    part_at c.args.first _ (length c.args.samples.now) _ _ c.args.samples.now q (search rules) (omega arith) refl
    (search rules)
