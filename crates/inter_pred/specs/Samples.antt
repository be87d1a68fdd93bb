-- The ways to make a sample of one or two predictions, by number.
use Rattle.std.specs.Prelude.{ℕ, ◌==◌, ℤ, if◌then◌else◌}
use Rattle.spec_inter_prediction.specs.declared.weighting.Weight.{Weight}
use Rattle.spec_inter_prediction.specs.Weighting.{default_one, default_two, explicit_one, explicit_two}

-- 0 and 1 by default weights, 2 and 3 by explicit ones, 4 and 5 by default weights at 8 bits; 0, 2 and 4 of the first
-- prediction alone
unfoldable pub sample : ℕ → ℕ → ℕ → Weight → Weight → ℤ → ℤ → ℕ
sample kind depth log2_wd w v p q =
    if kind == 0 then default_one depth p
    else (if kind == 1 then default_two depth p q
    else (if kind == 2 then explicit_one depth log2_wd w p
    else (if kind == 3 then explicit_two depth log2_wd w v p q
    else (if kind == 4 then default_one 8 p
    else default_two 8 p q))))
