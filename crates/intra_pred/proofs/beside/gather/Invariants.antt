use Rattle.std.proofs.Common.{◌≡◌, ◌<◌, ℕ, length, get_or, None}
use Rattle.spec_intra_prediction.specs.Neighbours.{known_beside}
use Rattle.intra_pred.proofs.beside.gather.Given as goal

abbrev pub invariant-left : goal.invariant-left
invariant-left g l = record {
  count : length l.offered ≡ 129;
  told : (q : ℕ) → q < l.k → get_or l.offered q None ≡ known_beside (g.V.Border.known l.view l.c) l.n l.x l.y q;
}

abbrev pub invariant-above : goal.invariant-above
invariant-above g l = record {
  count : length l.offered ≡ 129;
  told : (q : ℕ) → q < l.k → get_or l.offered q None ≡ known_beside (g.V.Border.known l.view l.c) l.n l.x l.y q;
}
