use Rattle.std.proofs.Common.{◌≡◌, ◌<◌, ◌≤◌, ℕ, ◌-◌, ◌*◌, ◌^◌}
use Rattle.inter_pred.specs.Passes.{at, IsRaised}
use Rattle.inter_pred.proofs.window.raise.Given as goal

abbrev pub invariant-loop-k : goal.invariant-loop-k
invariant-loop-k l = record {
  value : (i : ℕ) → i < l.k → at l.line i ≡ 2 ^ (14 - l.depth) * at l.fn.line i;
  raised : (i : ℕ) → i < l.k → IsRaised (at l.line i);
  rest : (i : ℕ) → l.k ≤ i → at l.line i ≡ at l.fn.line i;
}
