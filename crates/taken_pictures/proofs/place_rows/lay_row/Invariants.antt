use Rattle.std.proofs.Common.{◌≡◌, ℕ, ◌+◌, ◌-◌, ◌≤◌, ◌==◌, ◌&&◌, cond, nat_le, nat_lt}
use Rattle.picture_buffer.specs.Motion.{HasPlaces, motions_of}
use Rattle.taken_pictures.specs.Kept.{IsOfSegment, kept_at}
use Rattle.taken_pictures.proofs.place_rows.lay_row.Given as goal

abbrev pub invariant-loop-column : goal.invariant-loop-column
invariant-loop-column l = record {
  sides : HasPlaces l.field l.fn.field.across l.fn.field.down;
  slice : IsOfSegment l.plan l.unit.address l.segment;
  inside : l.column ≤ l.row.count;
  places : (i j : ℕ)
      → motions_of l.field i j
      ≡ cond (j == l.row.y && (nat_le l.row.x i && nat_lt i (l.row.x + l.column)))
      (kept_at l.plan l.unit.address l.row (i - l.row.x)) (motions_of l.fn.field i j);
}

abbrev pub decreases-loop-column : goal.decreases-loop-column
decreases-loop-column l = l.row.count - l.column
