use Rattle.std.proofs.Common.{◌≡◌, ℕ, ◌<◌, length, get_or, pos}
use Rattle.ctu_build.proofs.levels.clear_levels.Given as goal

abbrev pub invariant-loop-k : goal.invariant-loop-k
invariant-loop-k l = record {
  count : length l.levels ≡ length l.fn.levels;
  zero : (i : ℕ) → i < l.k → get_or l.levels i (pos 0) ≡ pos 0;
}
