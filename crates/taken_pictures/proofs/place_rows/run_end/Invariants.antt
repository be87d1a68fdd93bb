use Rattle.std.proofs.Common.{◌≡◌, ℕ, ◌-◌, ◌<◌, ◌≤◌}
use Rattle.plan_types.specs.declared.picture_plan.PicturePlan.{PicturePlan}
use Rattle.taken_pictures.specs.Kept.{kept_at}
use Rattle.taken_pictures.proofs.place_rows.run_end.Given as goal

abbrev pub invariant-loop-end : goal.invariant-loop-end
invariant-loop-end l = record {
  more : l.column < l.end;
  inside : l.end ≤ l.row.count;
  same : (p : PicturePlan) (address i : ℕ) → l.column ≤ i → i < l.end
      → kept_at p address l.row i ≡ kept_at p address l.row l.column;
}

abbrev pub decreases-loop-end : goal.decreases-loop-end
decreases-loop-end l = l.row.count - l.end
