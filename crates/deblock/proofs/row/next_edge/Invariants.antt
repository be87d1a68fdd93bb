use Rattle.std.proofs.Common.{ℕ, List}
use Rattle.deblock.specs.Passes.{placed, IsPartly}
use Rattle.deblock.proofs.row.next_edge.Given as goal

abbrev pub invariant-loop-e : goal.invariant-loop-e
invariant-loop-e g l = (f : ℕ → ℕ → ℕ) (samples : List ℕ)
    → IsPartly l.pass (placed l.pass.window.turned (g.V.PlaceView.place_at l.view)) f l.s l.from samples
    → IsPartly l.pass (placed l.pass.window.turned (g.V.PlaceView.place_at l.view)) f l.s l.e samples
