-- The scaling of vectors by distances in order counts (8.5.3.2.7, 8.5.3.2.9).
use Rattle.std.specs.Prelude.{suc, ◌+◌, ◌/◌, Bool, ◌||◌, ℤ, pos, negsuc, neg_ℤ, ◌*ℤ◌, if◌then◌else◌}
use Rattle.std.specs.Int.RustNames.{int_div, unsigned_abs}
use Rattle.std.specs.Ordering.{int_eq}
use Rattle.spec_arithmetic.specs.Clipping.{clip3}
use Rattle.spec_arithmetic.specs.Rounding.{rounded}
use Rattle.ctu_records.specs.declared.prediction.Mv.{Mv}

-- td or tb, by the difference of order counts that it is of
abbrev pub distance : ℤ → ℤ
distance difference = clip3 (negsuc 127) (pos 127) difference

-- tx, of a td that isn't 0
unfoldable pub tx : ℤ → ℤ
tx td = int_div (pos (16384 + unsigned_abs td / 2)) td

-- distScaleFactor
unfoldable pub dist_scale_factor : ℤ → ℤ → ℤ
dist_scale_factor td tb = clip3 (negsuc 4095) (pos 4095) (rounded 6 (tb *ℤ tx td))

-- Sign( p ) * ( ( Abs( p ) + 127 ) >> 8 )
abbrev pub shortened : ℤ → ℤ
shortened (pos n) = pos ((n + 127) / 256)
shortened (negsuc n) = neg_ℤ (pos ((suc n + 127) / 256))

-- a component of a vector, times a factor
unfoldable pub scaled_component : ℤ → ℤ → ℤ
scaled_component factor component = clip3 (negsuc 32767) (pos 32767) (shortened (factor *ℤ component))

-- a vector, times a factor
abbrev pub stretched : ℤ → Mv → Mv
stretched factor mv = record { x = scaled_component factor mv.x; y = scaled_component factor mv.y }

-- whether a vector over one difference of order counts stays as it is over another one: where both are equal, and where
-- the one that it spans is 0
abbrev pub is_kept : ℤ → ℤ → Bool
is_kept spanned wanted = int_eq spanned wanted || int_eq spanned (pos 0)

-- a vector over one difference of order counts, brought to another one
unfoldable pub scaled : ℤ → ℤ → Mv → Mv
scaled spanned wanted mv =
    if is_kept spanned wanted then mv else stretched (dist_scale_factor (distance spanned) (distance wanted)) mv
