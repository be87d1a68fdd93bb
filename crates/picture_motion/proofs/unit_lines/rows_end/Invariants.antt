use Rattle.std.proofs.Common.{◌≡◌, ℕ, ◌+◌, ◌-◌, ◌<◌, ◌≤◌}
use Rattle.ctu_motion.specs.Held.{held}
use Rattle.picture_motion.proofs.unit_lines.rows_end.Given as goal

abbrev pub invariant-loop-end : goal.invariant-loop-end
invariant-loop-end l = record {
  more : l.row < l.end;
  inside : l.end ≤ l.block.rows;
  same : (i j : ℕ) → i < l.block.columns → l.row ≤ j → j < l.end
      → held l.motion (i + 1) (j + 1) ≡ held l.motion (i + 1) (l.row + 1);
}

abbrev pub decreases-loop-end : goal.decreases-loop-end
decreases-loop-end l = l.block.rows - l.end
