use Rattle.std.proofs.Common.{sym, arith}
use Rattle.std.proofs.lemmas.List.{set_past}
use Rattle.ctu_build.proofs.levels.lay_coefficient.Goals as goal

pub returns-else-place-out-clause-value : goal.returns-else-place-out-clause-value
returns-else-place-out-clause-value c depth log2 qp quantizers shifts =
    sym (set_past c.args.out.now c.args.place _ (omega arith))
