use Rattle.std.proofs.Common.{◌≡◌, ◌<◌, ℕ, ◌+◌, ◌*◌, pos, ◌+ℤ◌}
use Rattle.inter_pred.specs.Passes.{at, down}
use Rattle.inter_pred.proofs.down.columns.Given as goal

abbrev pub invariant-loop-y : goal.invariant-loop-y
invariant-loop-y g l = (x y : ℕ) → x < l.width → y < l.y
    → pos (at l.out (64 * y + x)) ≡ pos 16896 +ℤ down g.row.TAPS g.row.Q l.middle (64 * y + x)
