use Rattle.std.proofs.Common.{◌≡◌, ◌*◌, ℕ, cond, nat_lt}
use Rattle.spec_intra_prediction.specs.Neighbours.{at}
use Rattle.ctu_build.proofs.edge.lay_below.Given as goal

abbrev pub invariant-loop-group : goal.invariant-loop-group
invariant-loop-group l = (k : ℕ) → at l.edge k ≡ cond (nat_lt k (4 * l.group)) l.first (at l.fn.edge k)
