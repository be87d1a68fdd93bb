use Rattle.std.proofs.Common.{◌≡◌, ℕ, ◌+◌, ◌-◌, true, ◌&&◌, cond, nat_le, nat_lt, length}
use Rattle.spec_deblocking.specs.Lines.{nth}
use Rattle.deblock.specs.Lanes.{line_of, AreLines}
use Rattle.deblock.specs.Samples.{IsBounded}
use Rattle.deblock.specs.Windows.{holds, seen}
use Rattle.deblock.proofs.four.write_rows.Given as goal

abbrev pub invariant-loop-k : goal.invariant-loop-k
invariant-loop-k l = record {
  count : length l.out ≡ length l.fn.out;
  value : (i j : ℕ) → holds l.w i j ≡ true
      → seen l.w l.out i j
      ≡ cond ((nat_le l.b j && nat_lt j (l.b + 4)) && (nat_le l.a i && nat_lt i (l.a + l.k)))
      (nth (line_of l.l (j - l.b)) (i - l.a)) (seen l.w l.fn.out i j);
  small : (greatest : ℕ) → AreLines greatest l.l → IsBounded greatest l.fn.out → IsBounded greatest l.out;
}
