use Rattle.std.proofs.Common.{◌≡◌, ℕ, ◌+◌, ◌&&◌, cond, nat_le, nat_lt}
use Rattle.picture_buffer.specs.Motion.{HasPlaces, motions_of}
use Rattle.picture_motion.proofs.unit_lines.lay_block.Given as goal

abbrev pub invariant-loop-row : goal.invariant-loop-row
invariant-loop-row l = record {
  sides : HasPlaces l.field l.fn.field.across l.fn.field.down;
  places : (i j : ℕ)
      → motions_of l.field i j
      ≡ cond ((nat_le l.block.y j && nat_lt j (l.block.y + l.row))
      && (nat_le l.block.x i && nat_lt i (l.block.x + l.block.columns))) l.motion (motions_of l.fn.field i j);
}
