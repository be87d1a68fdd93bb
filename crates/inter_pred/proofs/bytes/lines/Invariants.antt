use Rattle.std.proofs.Common.{◌≡◌, ◌<◌, ◌≤◌, ℕ, ◌+◌, ◌*◌, pos, ◌+ℤ◌}
use Rattle.std.specs.List.{All}
use Rattle.inter_pred.specs.Passes.{at, tapped, IsMiddle}
use Rattle.inter_pred.proofs.bytes.lines.Given as goal

abbrev pub invariant-loop-y : goal.invariant-loop-y
invariant-loop-y g l = record {
  value : (x y : ℕ) → x < l.width → y < l.y
      → pos (at l.out (64 * y + x)) ≡ pos l.base +ℤ tapped g.row.TAPS g.row.Q g.row.STEP l.window (72 * y + x);
  small : l.base ≤ 6144 → All IsMiddle l.fn.out → All IsMiddle l.out;
}
