use Rattle.std.proofs.Common.{◌≡◌, ℕ, ◌+◌, ◌-◌, true, ◌&&◌, cond, nat_le, nat_lt}
use Rattle.std.specs.Prelude.{◌==◌}
use Rattle.spec_deblocking.specs.Lines.{nth}
use Rattle.deblock.specs.Samples.{AreSmall, IsBounded}
use Rattle.deblock.specs.Windows.{holds, seen}
use Rattle.deblock.proofs.window.write_some.Given as goal

abbrev pub invariant-loop-k : goal.invariant-loop-k
invariant-loop-k g l = record {
  value : (i j : ℕ) → holds l.w i j ≡ true
      → seen l.w l.out i j
      ≡ cond (j == l.b && (nat_le (l.a + g.row.FROM) i && nat_lt i (l.a + l.k))) (nth l.line (i - l.a))
      (seen l.w l.fn.out i j);
  small : (greatest : ℕ) → AreSmall greatest l.line → IsBounded greatest l.fn.out → IsBounded greatest l.out;
}
