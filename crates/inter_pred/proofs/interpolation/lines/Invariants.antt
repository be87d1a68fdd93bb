use Rattle.std.proofs.Common.{◌≡◌, ◌<◌, ℕ, ◌+◌, ◌*◌, pos, ◌+ℤ◌}
use Rattle.std.specs.List.{All}
use Rattle.inter_pred.specs.Passes.{across, at, IsMiddle}
use Rattle.inter_pred.proofs.interpolation.lines.Given as goal

abbrev pub invariant-loop-y : goal.invariant-loop-y
invariant-loop-y g l = record {
  value : (x y : ℕ) → x < l.width → y < l.y
      → pos (at l.middle (64 * y + x)) ≡ pos 6144 +ℤ across g.row.TAPS g.row.Q l.window (72 * y + x);
  small : All IsMiddle l.middle;
}
