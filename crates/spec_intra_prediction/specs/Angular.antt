-- Prediction along a direction (8.4.4.2.6). It is said once, for the modes 18 to 34: `main` is the corner and what lies
-- above and to the right, `side` the corner and what lies below. The modes 2 to 17 exchange the two, and columns with
-- lines.
use Rattle.std.specs.Prelude.{ℕ, suc, ◌+◌, ◌-◌, ◌*◌, ◌/◌, ◌%◌, ◌^◌, ◌==◌, ℤ, pos, negsuc, ◌+ℤ◌, ◌-ℤ◌, Bool, ◌&&◌}
use Rattle.std.specs.Prelude.{◌||◌}
use Rattle.std.specs.Prelude.{nat_lt, List, slice_index_or, if◌then◌else◌}
use Rattle.std.specs.Int.{int_shr}
use Rattle.spec_arithmetic.specs.Clipping.{clip1}
use Rattle.spec_intra_prediction.specs.declared.angles.TheConstants.{INTRA_PRED_ANGLE, INVERSE_ANGLE}
use Rattle.spec_intra_prediction.specs.Neighbours.{at}

-- intraPredAngle of the modes 2 to 34, in 1/32 of a sample per line
unfoldable pub angle : ℕ → ℤ
angle mode = slice_index_or INTRA_PRED_ANGLE (mode - 2) (pos 0)

-- invAngle of the modes 11 to 25, without its sign, in 1/256 of a sample per sample
unfoldable pub inverse_angle : ℕ → ℕ
inverse_angle mode = slice_index_or INVERSE_ANGLE (mode - 11) 0

-- ref, counted from N places before its first: ref[i - N]. What lies before ref[0] is of the side, by the inverse angle
-- (both factors of x * invAngle are negative, so theirs is the product of their sizes)
abbrev pub reference : ℕ → ℕ → List ℕ → List ℕ → ℕ → ℕ
reference n inverse main side i =
    if nat_lt i n then at side (((n - i) * inverse + 128) / 256) else at main (i - n)

-- where a line meets ref, in 1/32 of a sample, counted from N samples before: 32 * (iIdx + N) + iFact
abbrev pub met : ℕ → ℤ → ℕ → ℕ
met n (pos size) y = 32 * n + (y + 1) * size
met n (negsuc size) y = 32 * n - (y + 1) * suc size

-- two samples of ref, by iFact: 1/32 of the way between them
abbrev pub between : ℕ → ℕ → ℕ → ℕ
between i_fact first second =
    if i_fact == 0 then first else ((32 - i_fact) * first + i_fact * second + 16) / 32

-- column x of a line that meets ref at a place: between ref[x + iIdx + 1] and ref[x + iIdx + 2]
abbrev pub met_sample : ℕ → ℕ → List ℕ → List ℕ → ℕ → ℕ → ℕ
met_sample n inverse main side place x =
    between (place % 32) (reference n inverse main side (place / 32 + x + 1))
    (reference n inverse main side (place / 32 + x + 2))

-- Clip1 of a sample beside the block, moved by half of what the side changes
abbrev pub stepped : ℕ → ℕ → ℕ → ℕ → ℕ
stepped depth first now corner = clip1 depth (pos first +ℤ int_shr (pos now -ℤ pos corner) 1)

-- the sample at (x, y); horizontal and vertical, whose angle is 0, step the first of each line where edges are filtered
unfoldable pub angular : Bool → ℕ → ℕ → ℕ → List ℕ → List ℕ → ℕ → ℕ → ℕ
angular edges log2 mode depth main side x y =
    if (edges && (mode == 10 || mode == 26)) && x == 0
    then stepped depth (at main 1) (at side (y + 1)) (at main 0)
    else met_sample (2 ^ log2) (inverse_angle mode) main side (met (2 ^ log2) (angle mode) y) x
