use Rattle.std.proofs.Common.{◌≡◌, ℕ, ◌+◌, ◌-◌, ◌≤◌, ◌&&◌, cond, nat_le, nat_lt}
use Rattle.ctu_motion.specs.Held.{held}
use Rattle.picture_buffer.specs.Motion.{HasPlaces, motions_of}
use Rattle.spec_picture_motion.specs.Field.{pointing_motion}
use Rattle.picture_motion.proofs.unit_lines.lay_rows.Given as goal

abbrev pub invariant-loop-column : goal.invariant-loop-column
invariant-loop-column l = record {
  sides : HasPlaces l.field l.fn.field.across l.fn.field.down;
  inside : l.column ≤ l.block.columns;
  places : (i j : ℕ)
      → motions_of l.field i j
      ≡ cond ((nat_le (l.block.y + l.row) j && nat_lt j (l.block.y + l.end))
      && (nat_le l.block.x i && nat_lt i (l.block.x + l.column)))
      (pointing_motion l.slice (held l.motion (i - l.block.x + 1) (l.row + 1))) (motions_of l.fn.field i j);
}

abbrev pub decreases-loop-column : goal.decreases-loop-column
decreases-loop-column l = l.block.columns - l.column
