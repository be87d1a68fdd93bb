use Rattle.std.proofs.Common.{◌≡◌, ℕ, ◌+◌, ◌-◌, pos, ◌+ℤ◌, cond, nat_le, nat_lt, ◌&&◌}
use Rattle.std.specs.List.{All}
use Rattle.inter_pred.specs.Passes.{across, at, IsMiddle}
use Rattle.inter_pred.proofs.interpolation.line.Given as goal

abbrev pub invariant-loop-k : goal.invariant-loop-k
invariant-loop-k g l = record {
  value : (q : ℕ) → pos (at l.middle q)
      ≡ cond (nat_le l.to q && nat_lt q (l.to + l.k))
      (pos 6144 +ℤ across g.row.TAPS g.row.Q l.window (l.from + (q - l.to))) (pos (at l.fn.middle q));
  small : All IsMiddle l.middle;
}
