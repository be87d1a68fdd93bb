-- The sizes of a flight's pictures: all columns and rows but the last have whole units.
use Rattle.std.proofs.Common.{◌≡◌, ℕ, ◌+◌, ◌-◌, ◌*◌, ◌<◌, ◌≤◌, min, arith}
use Rattle.std.proofs.lemmas.Nat.{pow_pos, le-div}
use Rattle.std.proofs.Math.Nat.{mul-le-mul_right, div-mul-le_self}
use Rattle.sample_words.specs.declared.sizes.FlightSizes.{FlightSizes}
use Rattle.sample_words.specs.Sizes.{IsFlight, covering, columns, rows, width_of, height_of, ctb_size, common_words}

pub whole_side : (side samples k : ℕ) → 0 < side → k + 1 < covering side samples → min side (samples - k * side) ≡ side
whole_side side samples k some more =
    let le = div-mul-le_self (samples + (side - 1)) side in
    let m : (k + 2) * side ≤ covering side samples * side = mul-le-mul_right side (omega arith) in
    let n : (k + 2) * side ≡ k * side + 2 * side = omega arith in
    omega arith

pub some_covering : (side samples : ℕ) → 0 < side → 0 < samples → 0 < covering side samples
some_covering side samples some samples_too =
    let le : 1 ≤ covering side samples = le-div 1 (samples + (side - 1)) side some (omega arith) in omega arith

pub some_side : (s : FlightSizes) → 0 < ctb_size s
some_side s = pow_pos s.ctb_log2

pub some_columns : (s : FlightSizes) → IsFlight s → 0 < columns s
unfolding columns
some_columns s is = some_covering (ctb_size s) s.width (some_side s) (omega arith)

pub some_rows : (s : FlightSizes) → IsFlight s → 0 < rows s
unfolding rows
some_rows s is = some_covering (ctb_size s) s.height (some_side s) (omega arith)

pub whole_columns : (s : FlightSizes) (column : ℕ) → column + 1 < columns s → width_of s column ≡ ctb_size s
unfolding columns width_of
whole_columns s column more = whole_side (ctb_size s) s.width column (some_side s) more

pub whole_rows : (s : FlightSizes) (row : ℕ) → row + 1 < rows s → height_of s row ≡ ctb_size s
unfolding rows height_of
whole_rows s row more = whole_side (ctb_size s) s.height row (some_side s) more

pub some_common : (s : FlightSizes) (width height : ℕ) → 0 < common_words s width height
unfolding common_words
some_common s width height = omega arith
