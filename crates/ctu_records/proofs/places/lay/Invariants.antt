use Rattle.std.proofs.Common.{◌≡◌, ℕ, ◌+◌, ◌<◌, cond, nat_le, nat_lt, ◌&&◌}
use Rattle.ctu_records.specs.Places.{by_place}
use Rattle.ctu_records.proofs.places.lay.Given as goal

abbrev pub invariant-loop-row : goal.invariant-loop-row
invariant-loop-row g l = (i j : ℕ) (d : g.row.T.Denot) → i < 16 → j < 16
    → by_place d l.cells i j
    ≡ cond ((nat_le l.x i && nat_lt i (l.x + l.side)) && (nat_le l.y j && nat_lt j l.row)) l.value
    (by_place d l.fn.cells i j)
