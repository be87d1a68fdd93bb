-- What a planner knows while nothing stopped the stream.
use Rattle.std.specs.Prelude.{ℕ, List}
use Rattle.plan_types.specs.declared.picture_plan.PicturePlan.{PicturePlan}
use Rattle.plan_types.specs.declared.between.Between.{Between}

-- how many pictures a flight has at most, the pictures that wait for their flight's end, and what is known between two
-- units
pub record Held : Type 0 where
  pub ahead : ℕ
  pub pending : List PicturePlan
  pub between : Between
