use Rattle.std.proofs.Common.{◌≡◌, ◌≤◌, ℕ, ◌+◌, ◌-◌, ◌*◌, ◌/◌, cond, nat_lt, ◌&&◌}
use Rattle.spec_intra_prediction.specs.Neighbours.{at}
use Rattle.intra_pred.proofs.angular.lay_side.Given as goal

abbrev pub invariant-loop-j : goal.invariant-loop-j
invariant-loop-j l = record {
  few : l.j ≤ 1 + ((l.n * l.size + 31) / 32 - 1);
  told : (q : ℕ)
      → at l.reference q
      ≡ cond (nat_lt q l.n && nat_lt (l.n - q) l.j) (at l.side (((l.n - q) * l.inverse + 128) / 256))
      (at l.fn.reference q);
}
