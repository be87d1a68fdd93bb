-- The greatest sides of levels.
use Rattle.std.proofs.Common.{◌≡◌, ℕ, ◌==◌, Bool, true, false, ◌||◌, Option, Some, None, if◌then◌else◌, arith}
use Rattle.std.specs.Prelude.{IfSome}
use Rattle.spec_parameter_sets.specs.declared.levels.Level.{Level}
use Rattle.spec_parameter_sets.specs.Levels.{HasGreatestSide, level, level_of}

either : (b : Bool) (x y : Option Level) → IfSome x HasGreatestSide → IfSome y HasGreatestSide
    → IfSome (if b then x else y) HasGreatestSide
either true x y p q = p
either false x y p q = q

pub sides_are_greatest : (idc : ℕ) → IfSome (level_of idc) HasGreatestSide
unfolding level_of
sides_are_greatest idc =
    either (idc == 30) _ _ (record { within = omega arith; greatest = omega arith })
    (either (idc == 60) _ _ (record { within = omega arith; greatest = omega arith })
    (either (idc == 63) _ _ (record { within = omega arith; greatest = omega arith })
    (either (idc == 90) _ _ (record { within = omega arith; greatest = omega arith })
    (either (idc == 93) _ _ (record { within = omega arith; greatest = omega arith })
    (either ((idc == 120) || (idc == 123)) _ _ (record { within = omega arith; greatest = omega arith })
    (either ((idc == 150) || ((idc == 153) || (idc == 156))) _ _
    (record { within = omega arith; greatest = omega arith })
    (either ((idc == 180) || ((idc == 183) || (idc == 186))) _ _
    (record { within = omega arith; greatest = omega arith }) tt)))))))
