-- How many words there are at most.
use Rattle.std.proofs.Common.{ℕ, ◌+◌, ◌-◌, ◌*◌, ◌/◌, ◌^◌, ◌<◌, ◌≤◌, ◌==◌, cond, Bool, true}
use Rattle.std.proofs.Common.{false, inl, inr}
use Rattle.std.proofs.Common.{arith}
use Rattle.std.proofs.lemmas.Bool.{cases_lt}
use Rattle.std.proofs.lemmas.Nat.{div_below, mul-le}
use Rattle.std.proofs.Math.Nat.{mul-le-mul_left, div-mul-le_self, pow-le-pow_right}
use Rattle.sample_words.specs.declared.sizes.FlightSizes.{FlightSizes}
use Rattle.sample_words.specs.Sizes.{IsFlight, covering, columns, rows, ctb_size, width_of, height_of, line_words}
use Rattle.sample_words.specs.Sizes.{sample_words, common_words, tree_words, tree_start, built_words, filtered_words}
use Rattle.sample_words.specs.Sizes.{row_words, picture_words, context_words, carry_words}
use Rattle.sample_words.specs.Words.{first_unit_word, words}
use Rattle.sample_words.proofs.Columns.{begins_most}
use Rattle.sample_words.proofs.Extents.{some_columns, some_rows}
use Rattle.sample_words.proofs.Parts.{chosen_most, last_part, next_part}

pub side_least : (n : ℕ) → 4 ≤ n → 16 ≤ 2 ^ n
side_least n le = pow-le-pow_right {n = 2} (omega arith) le

pub side_most : (n : ℕ) → n ≤ 6 → 2 ^ n ≤ 64
side_most n le = pow-le-pow_right {n = 2} (omega arith) le

pub least_side : (s : FlightSizes) → IsFlight s → 16 ≤ ctb_size s
least_side s is = side_least s.ctb_log2 is.least_unit

pub greatest_side : (s : FlightSizes) → IsFlight s → ctb_size s ≤ 64
greatest_side s is = side_most s.ctb_log2 is.greatest_unit

-- there are at most as many parts as samples
pub covering_most : (count samples : ℕ) → 1 ≤ count → covering count samples ≤ samples
covering_most count samples some =
    let m : samples * 1 ≤ samples * count = mul-le-mul_left samples some in
    let e = next_part samples count in
    let d = div_below (samples + (count - 1)) count (samples + 1) some (omega arith) in
    omega arith

pub few_parts : (side samples : ℕ) → 16 ≤ side → 1 ≤ samples → samples ≤ 8192 → covering side samples ≤ 512
few_parts side samples least some few = elim (cases_lt (covering side samples) 1) [
  | inl none ↦ omega arith
  | inr more ↦
      let n : ℕ = covering side samples in
      let le : n * side ≤ samples + (side - 1) = div-mul-le_self (samples + (side - 1)) side in
      let e : (n - 1) * 16 ≤ (n - 1) * side = mul-le-mul_left (n - 1) least in
      let f = last_part n side more in
      omega arith
]

pub few_columns : (s : FlightSizes) → IsFlight s → columns s ≤ 512
unfolding columns
few_columns s is = few_parts (ctb_size s) s.width (least_side s is) (omega arith) is.width

pub few_rows : (s : FlightSizes) → IsFlight s → rows s ≤ 512
unfolding rows
few_rows s is = few_parts (ctb_size s) s.height (least_side s is) (omega arith) is.height

pub small_width : (s : FlightSizes) (column : ℕ) → IsFlight s → width_of s column ≤ 64
unfolding width_of
small_width s column is = let m = greatest_side s is in omega arith

pub small_height : (s : FlightSizes) (row : ℕ) → IsFlight s → height_of s row ≤ 64
unfolding height_of
small_height s row is = let m = greatest_side s is in omega arith

shorter : (deep : Bool) (n : ℕ) → covering (cond deep 4 8) n ≤ n
shorter true n = covering_most 4 n (omega arith)
shorter false n = covering_most 8 n (omega arith)

pub few_line_words : (s : FlightSizes) (n : ℕ) → line_words s n ≤ n
unfolding line_words
few_line_words s n = shorter s.deep n

few_samples : (s : FlightSizes) (width height w h : ℕ) → width ≤ w → height ≤ h
    → sample_words s width height ≤ h * w + 2 * (h / 2 * (w / 2))
unfolding sample_words
few_samples s width height w h narrow low =
    let luma = few_line_words s width in
    let chroma = few_line_words s (width / 2) in
    let a = mul-le height (line_words s width) h w low (omega arith) in
    let b = mul-le (height / 2) (line_words s (width / 2)) (h / 2) (w / 2) (omega arith) (omega arith) in
    omega arith

pub few_sample_words : (s : FlightSizes) (width height : ℕ) → width ≤ 8192 → height ≤ 64
    → sample_words s width height ≤ 786432
few_sample_words s width height narrow low = few_samples s width height 8192 64 narrow low

pub few_common_words : (s : FlightSizes) (width height : ℕ) → width ≤ 64 → height ≤ 64
    → common_words s width height ≤ 6658
unfolding common_words
few_common_words s width height narrow low =
    let a = few_samples s width height 64 64 narrow low in
    let b = mul-le (width / 4) (height / 4) 16 16 (omega arith) (omega arith) in
    omega arith

more_most : (s : FlightSizes) (column : ℕ) → context_words column + carry_words s column ≤ 44
more_most s column =
    let a = chosen_most (column == 1) 20 in
    let b = chosen_most (column + 1 == columns s) 24 in
    omega arith

pub few_tree_words : (s : FlightSizes) (column height : ℕ) → IsFlight s → height ≤ 64
    → tree_words s height column ≤ 6702
few_tree_words s column height is low =
    let a = few_common_words s (width_of s column) height (small_width s column is) low in
    let b = more_most s column in omega arith

pub early_start : (s : FlightSizes) (column height : ℕ) → IsFlight s → column < columns s → height ≤ 64
    → tree_start s height column ≤ 3402258
early_start s column height is below low =
    let c = few_columns s is in
    let a = few_common_words s (ctb_size s) height (greatest_side s is) low in
    let b = mul-le column (common_words s (ctb_size s) height) 511 6658 (omega arith) a in
    let d = begins_most (common_words s (ctb_size s) height) column in
    omega arith

pub few_built_words : (s : FlightSizes) (height : ℕ) → IsFlight s → height ≤ 64
    → built_words s height ≤ 3408960
unfolding built_words
few_built_words s height is low =
    let some = some_columns s is in
    let a = few_tree_words s (columns s - 1) height is low in
    let b = early_start s (columns s - 1) height is (omega arith) low in
    omega arith

pub few_filtered_words : (s : FlightSizes) (height : ℕ) → IsFlight s → height ≤ 64 → filtered_words s height ≤ 786432
unfolding filtered_words
few_filtered_words s height is low = few_sample_words s s.width height is.width low

pub few_row_words : (s : FlightSizes) (height : ℕ) → IsFlight s → height ≤ 64
    → row_words s height ≤ 5768256
unfolding row_words
few_row_words s height is low =
    let a = few_built_words s height is low in
    let b = few_filtered_words s height is low in
    omega arith

pub few_rows_before : (s : FlightSizes) (row : ℕ) → IsFlight s → row < 512
    → row * row_words s (ctb_size s) ≤ 2947578816
few_rows_before s row is below =
    let a = few_row_words s (ctb_size s) is (greatest_side s is) in
    mul-le row (row_words s (ctb_size s)) 511 5768256 (omega arith) a

pub few_picture_words : (s : FlightSizes) → IsFlight s → picture_words s ≤ 2953347072
unfolding picture_words
few_picture_words s is =
    let r = few_rows s is in
    let some = some_rows s is in
    let a = few_rows_before s (rows s - 1) is (omega arith) in
    let b = few_row_words s (height_of s (rows s - 1)) is (small_height s (rows s - 1) is) in
    omega arith

pub few_words : (s : FlightSizes) → IsFlight s → words s < 2 ^ 50
unfolding words first_unit_word
few_words s is =
    let a = few_picture_words s is in
    let b = mul-le s.pictures (picture_words s) 65536 2953347072 is.pictures a in
    let c = mul-le s.pictures (rows s) 65536 512 is.pictures (few_rows s is) in
    omega arith
