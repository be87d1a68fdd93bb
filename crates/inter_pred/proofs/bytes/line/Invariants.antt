use Rattle.std.proofs.Common.{◌≡◌, ◌≤◌, ℕ, ◌+◌, ◌-◌, pos, ◌+ℤ◌, cond, nat_le, nat_lt, ◌&&◌}
use Rattle.std.specs.List.{All}
use Rattle.inter_pred.specs.Passes.{at, tapped, IsMiddle}
use Rattle.inter_pred.proofs.bytes.line.Given as goal

abbrev pub invariant-loop-k : goal.invariant-loop-k
invariant-loop-k g l = record {
  value : (q : ℕ) → pos (at l.out q)
      ≡ cond (nat_le l.to q && nat_lt q (l.to + l.k))
      (pos l.base +ℤ tapped g.row.TAPS g.row.Q g.row.STEP l.window (l.from + (q - l.to))) (pos (at l.fn.out q));
  small : l.base ≤ 6144 → All IsMiddle l.fn.out → All IsMiddle l.out;
}
