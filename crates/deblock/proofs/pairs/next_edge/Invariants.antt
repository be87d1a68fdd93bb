use Rattle.std.proofs.Common.{ℕ, List}
use Rattle.deblock.specs.Pairs.{IsPairly}
use Rattle.deblock.specs.Passes.{placed}
use Rattle.deblock.proofs.pairs.next_edge.Given as goal

abbrev pub invariant-loop-e : goal.invariant-loop-e
invariant-loop-e g l = (f : ℕ → ℕ → ℕ) (samples : List ℕ)
    → IsPairly l.pass (placed l.pass.window.turned (g.V.PlaceView.place_at l.view)) f l.s l.from samples
    → IsPairly l.pass (placed l.pass.window.turned (g.V.PlaceView.place_at l.view)) f l.s l.e samples
