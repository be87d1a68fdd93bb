use Rattle.std.proofs.Common.{◌≡◌, ℕ, List, length, subst, sym, arith}
use Rattle.cabac_contexts.proofs.Packs.{past}
use Rattle.cabac_contexts.proofs.contexts.Contexts.get_or_zero.Goals as goal

pub returns-else-i-lt154 : goal.returns-else-i-lt154
returns-else-i-lt154 c =
    let count : length c.args.self.now ≡ 154 =
    subst (λ (values : List ℕ). length values ≡ 154) c.self.view_is c.self.invariant.0 in
    sym (past c.args.self.now c.args.i (omega arith))
