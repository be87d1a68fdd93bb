use Rattle.std.proofs.Common.{◌≡◌, ℕ, ◌+◌, ◌-◌, ◌<◌, ◌≤◌}
use Rattle.ctu_motion.specs.Held.{held}
use Rattle.picture_motion.proofs.unit_lines.run_end.Given as goal

abbrev pub invariant-loop-end : goal.invariant-loop-end
invariant-loop-end l = record {
  more : l.column < l.end;
  inside : l.end ≤ l.columns;
  same : (i : ℕ) → l.column ≤ i → i < l.end
      → held l.motion (i + 1) (l.row + 1) ≡ held l.motion (l.column + 1) (l.row + 1);
}

abbrev pub decreases-loop-end : goal.decreases-loop-end
decreases-loop-end l = l.columns - l.end
