use Rattle.std.proofs.Common.{◌≡◌, ℕ, ◌-◌, cond, Some}
use Rattle.ctu_build.specs.Held.{held}
use Rattle.ctu_build.proofs.Rectangles.{area_sample, in_area}
use Rattle.ctu_build.proofs.unit_samples.UnitSamples.lay_rows.Given as goal

abbrev pub invariant-loop-line : goal.invariant-loop-line
invariant-loop-line g l = (i j k : ℕ)
    → held l.self i j k
    ≡ cond (in_area l.c l.area.x l.area.y l.area.width l.line i j k)
    (Some (area_sample l.samples l.area.x l.area.y (j - 1) (k - 1))) (held l.fn.self i j k)
