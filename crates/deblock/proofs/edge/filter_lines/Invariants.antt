use Rattle.std.proofs.Common.{◌≡◌, ℕ, ◌+◌, ◌-◌, true, ◌&&◌, cond, nat_le, nat_lt}
use Rattle.spec_deblocking.specs.Lines.{across, nth}
use Rattle.spec_deblocking.specs.Filters.{filtered}
use Rattle.deblock.specs.Samples.{IsBounded}
use Rattle.deblock.specs.Windows.{holds, seen}
use Rattle.deblock.proofs.edge.filter_lines.Given as goal

abbrev pub invariant-loop-n : goal.invariant-loop-n
invariant-loop-n l = record {
  value : (i j : ℕ) → holds l.pass.window i j ≡ true
      → seen l.pass.window l.out i j
      ≡ cond ((nat_le l.first j && nat_lt j (l.first + l.n))
      && (nat_le (l.a + l.kernel.from) i && nat_lt i (l.a + l.kernel.to)))
      (nth (filtered l.kernel.filter l.kernel.greatest l.kernel.tc (across (seen l.pass.window l.fn.out) l.a j))
      (i - l.a))
      (seen l.pass.window l.fn.out i j);
  bounded : IsBounded l.kernel.greatest l.out;
}
