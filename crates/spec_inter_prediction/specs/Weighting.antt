-- Weighted sample prediction (8.5.3.3.4): samples of 14 bits become samples of a picture.
use Rattle.std.specs.Prelude.{ℕ, ◌+◌, ◌-◌, ◌^◌, ◌≤◌, ◌==◌, ℤ, pos, negsuc, ◌+ℤ◌, ◌*ℤ◌, ◌≤ℤ◌, if◌then◌else◌}
use Rattle.std.specs.Int.{int_shr}
use Rattle.block_geometry.specs.SpecArithmetic.{clip1}
use Rattle.block_geometry.specs.SpecArithmetic.{rounded}
use Rattle.spec_inter_prediction.specs.declared.weighting.Weight.{Weight}
use Rattle.spec_inter_prediction.specs.declared.weighting.Weights.{Weights}
use Rattle.spec_inter_prediction.specs.declared.weighting.Weighting.{Weighting}
use Rattle.spec_inter_prediction.specs.declared.weighting.Weighting.TheVariants.{Default, Explicit}

-- a number in units of 2^-shift, to the nearest whole number. A shift of 0, which shift1 is and log2WD may be at 14
-- bits, leaves it as it is: nothing is added, since there is no half to round
unfoldable pub rounded_if_shifted : ℕ → ℤ → ℤ
rounded_if_shifted shift v = if shift == 0 then v else rounded shift v

-- an offset on the scale of the samples: o0 or o1
abbrev pub scaled_offset : ℕ → ℤ → ℤ
scaled_offset depth offset = offset *ℤ pos (2 ^ (depth - 8))

-- log2WD
abbrev pub log2_wd : ℕ → ℕ → ℕ
log2_wd depth denominator = denominator + (14 - depth)

-- default weighting of one prediction, and of two (8.5.3.3.4.2)
unfoldable pub default_one : ℕ → ℤ → ℕ
default_one depth p = clip1 depth (rounded_if_shifted (14 - depth) p)

-- that of two predictions
unfoldable pub default_two : ℕ → ℤ → ℤ → ℕ
default_two depth p q = clip1 depth (rounded_if_shifted (15 - depth) (p +ℤ q))

-- explicit weighting of one prediction, and of two (8.5.3.3.4.3), under log2WD
unfoldable pub explicit_one : ℕ → ℕ → Weight → ℤ → ℕ
explicit_one depth log2_wd w p =
    clip1 depth (rounded_if_shifted log2_wd (p *ℤ w.weight) +ℤ scaled_offset depth w.offset)

-- that of two predictions
unfoldable pub explicit_two : ℕ → ℕ → Weight → Weight → ℤ → ℤ → ℕ
explicit_two depth log2_wd w v p q =
    clip1 depth (int_shr (p *ℤ w.weight +ℤ q *ℤ v.weight
    +ℤ (scaled_offset depth w.offset +ℤ scaled_offset depth v.offset +ℤ pos 1) *ℤ pos (2 ^ log2_wd)) (log2_wd + 1))

-- a sample from the one prediction that there is, of list 0 or of list 1
unfoldable pub weighted_one : ℕ → Weighting → ℕ → ℤ → ℕ
weighted_one depth Default list p = default_one depth p
weighted_one depth (Explicit w) list p =
    explicit_one depth (log2_wd depth w.log2_denominator) (if list == 0 then w.list0 else w.list1) p

-- a sample from the predictions of both lists
unfoldable pub weighted_two : ℕ → Weighting → ℤ → ℤ → ℕ
weighted_two depth Default p q = default_two depth p q
weighted_two depth (Explicit w) p q = explicit_two depth (log2_wd depth w.log2_denominator) w.list0 w.list1 p q

-- weights that may be coded (7.4.7.3)
abbrev pub IsWeight : Weight → Type 0
IsWeight w = (negsuc 127 ≤ℤ w.weight) × (w.weight ≤ℤ pos 255)

-- those of both lists
pub record IsWeights (w : Weights) : Type 0 where
  pub denominator : w.log2_denominator ≤ 7
  pub list0 : IsWeight w.list0
  pub list1 : IsWeight w.list1

-- those of a component
abbrev pub IsWeighting : Weighting → Type 0
IsWeighting Default = Unit {0}
IsWeighting (Explicit w) = IsWeights w
