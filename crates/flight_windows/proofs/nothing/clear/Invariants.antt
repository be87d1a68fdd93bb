use Rattle.std.proofs.Common.{◌≡◌, ◌<◌, ℕ, length}
use Rattle.inter_pred.specs.Passes.{at}
use Rattle.flight_windows.proofs.nothing.clear.Given as goal

abbrev pub invariant-loop-k : goal.invariant-loop-k
invariant-loop-k l = record {
  count : length l.line ≡ length l.fn.line;
  none : (i : ℕ) → i < l.k → at l.line i ≡ 0;
}
