use Rattle.std.proofs.Common.{◌≡◌, ◌<◌, ℕ, ◌+◌, ◌*◌, min}
use Rattle.inter_pred.specs.Passes.{at}
use Rattle.inter_pred.proofs.whole.lay_any_lines.Given as goal

abbrev pub invariant-loop-y : goal.invariant-loop-y
invariant-loop-y l = (x y : ℕ) → x < l.width → y < l.y
    → at l.out (64 * y + x) ≡ min (at l.window (72 * y + x)) 255
