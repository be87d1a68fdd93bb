use Rattle.std.proofs.Common.{◌≡◌, ◌≤◌, ◌<◌, ◌*◌, ℕ, false}
use Rattle.ctu_build.specs.Beside.{is_known, left_cell}
use Rattle.ctu_build.proofs.edge.unknown_below.Given as goal

abbrev pub invariant-loop-group : goal.invariant-loop-group
invariant-loop-group l =
    (k : ℕ) → 4 * l.outside ≤ k → k < 4 * l.group → is_known l.beside (left_cell l.beside k) ≡ false
