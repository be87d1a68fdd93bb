use Rattle.std.proofs.Common.{◌≡◌, ℕ, ◌+◌, ◌*◌, ◌/◌, cond, nat_lt}
use Rattle.spec_intra_prediction.specs.Neighbours.{at}
use Rattle.spec_intra_prediction.specs.Neighbours.{above_at}
use Rattle.std.specs.Prelude.{◌/◌}
use Rattle.intra_pred.proofs.planar_dc.first_line.Given as goal

abbrev pub invariant-loop-x : goal.invariant-loop-x
invariant-loop-x l =
    (q : ℕ) → at l.out q ≡ cond (nat_lt q l.x) ((above_at l.n l.edge q + 3 * l.mean + 2) / 4) (at l.fn.out q)
