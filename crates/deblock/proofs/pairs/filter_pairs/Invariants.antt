use Rattle.std.proofs.Common.{ℕ, ◌-◌, ◌^◌, ◌≤◌}
use Rattle.deblock.specs.Samples.{IsBounded}
use Rattle.deblock.specs.Pairs.{IsPairly}
use Rattle.deblock.specs.Passes.{placed}
use Rattle.deblock.proofs.pairs.filter_pairs.Given as goal

abbrev pub invariant-loop-e : goal.invariant-loop-e
invariant-loop-e g l = record {
  done : (f : ℕ → ℕ → ℕ)
      → IsPairly l.pass (placed l.pass.window.turned (g.V.PlaceView.place_at l.view)) f l.s 0 l.fn.out
      → IsPairly l.pass (placed l.pass.window.turned (g.V.PlaceView.place_at l.view)) f l.s l.e l.out;
  low : l.pass.first ≤ l.e;
  high : l.e ≤ l.pass.end;
  bounded : IsBounded (2 ^ l.pass.bit_depth - 1) l.out;
}

abbrev pub decreases-loop-e : goal.decreases-loop-e
decreases-loop-e g l = l.pass.end - l.e
