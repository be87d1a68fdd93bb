use Rattle.std.proofs.Common.{◌≡◌, ℕ, ◌+◌, ◌-◌, ◌≤◌, ◌&&◌, cond, nat_le, nat_lt}
use Rattle.ctu_motion.specs.Held.{held}
use Rattle.picture_buffer.specs.Motion.{HasPlaces, motions_of}
use Rattle.spec_picture_motion.specs.Field.{pointing_motion}
use Rattle.picture_motion.proofs.unit_lines.lay_unit.Given as goal

abbrev pub invariant-loop-row : goal.invariant-loop-row
invariant-loop-row l = record {
  sides : HasPlaces l.field l.unit.layout.across l.unit.layout.down;
  inside : l.row ≤ l.block.rows;
  places : (i j : ℕ)
      → motions_of l.field i j
      ≡ cond ((nat_le l.block.y j && nat_lt j (l.block.y + l.row))
      && (nat_le l.block.x i && nat_lt i (l.block.x + l.block.columns)))
      (pointing_motion l.slice (held l.motion (i - l.block.x + 1) (j - l.block.y + 1))) (motions_of l.fn.field i j);
}

abbrev pub decreases-loop-row : goal.decreases-loop-row
decreases-loop-row l = l.block.rows - l.row
