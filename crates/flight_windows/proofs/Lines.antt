-- Lines of a row of coding tree blocks.
use Rattle.std.proofs.Common.{◌≡◌, ℕ, zero, suc, ◌+◌, ◌-◌, ◌*◌, ◌/◌, ◌%◌, ◌^◌, ◌<◌, ◌≤◌, ◌==◌, min, Bool, true, false}
use Rattle.std.proofs.Common.{if◌then◌else◌, sym, subst, arith}
use Rattle.std.proofs.Math.Nat.{div-mul-le_self, lt-div-mul-add}
use Rattle.std.proofs.lemmas.Nat.{pow_pos}
use Rattle.sample_lines.specs.LocalityLaws.{luma_line}
use Rattle.sample_words.specs.Contents.{component_side}

-- what is known of a line and of the first one of its row
pub record IsInRow (c height side row line : ℕ) : Type 0 where
  pub whole : row * side ≤ 8192
  pub first : component_side c (row * side) ≤ line
  pub inside : line - component_side c (row * side) < component_side c (min side (height - row * side))

in_row_by : (t : Bool) (height half row line : ℕ) → height ≤ 8192 → height % 8 ≡ 0
    → line < (if t then height else height / 2) → row * (2 * half) ≤ (if t then line else 2 * line)
    → (if t then line else 2 * line) < row * (2 * half) + 2 * half
    → (row * (2 * half) ≤ 8192)
    × ((if t then row * (2 * half) else row * (2 * half) / 2) ≤ line)
    × (line - (if t then row * (2 * half) else row * (2 * half) / 2)
    < (if t then min (2 * half) (height - row * (2 * half)) else min (2 * half) (height - row * (2 * half)) / 2))
in_row_by true height half row line few whole less low high = (
  omega (arith, few, less, low),
  low,
  omega (arith, less, low, high),
)
in_row_by false height half row line few whole less low high =
    let turned : row * (2 * half) ≡ 2 * (row * half) = grind arith in (
      omega (arith, few, less, low),
      omega (arith, low, turned),
      omega (arith, less, low, high, turned, whole),
    )

twice : (n : ℕ) → 2 ^ suc n ≡ 2 * 2 ^ n
twice n = grind arith

in_row_of : (c height half side line : ℕ) → side ≡ 2 * half → 0 < side → height ≤ 8192 → height % 8 ≡ 0
    → line < component_side c height → IsInRow c height side (luma_line c line / side) line
in_row_of c height half side line even some few whole less =
    let luma : ℕ = luma_line c line in
    let row : ℕ = luma / side in
    let low : row * side ≤ luma = div-mul-le_self luma side in
    let high : luma < row * side + side = lt-div-mul-add {a = luma} {b = side} some in
    let told =
    in_row_by (c == 0) height half row line few whole less (subst (λ s. row * s ≤ luma) even low)
    (subst (λ s. luma < row * s + s) even high) in
    subst (λ s. IsInRow c height s row line) (sym even)
    (record { whole = told.0; first = told.1; inside = told.2 })

pub in_row : (c height n line : ℕ) → height ≤ 8192 → height % 8 ≡ 0 → 4 ≤ n → line < component_side c height
    → IsInRow c height (2 ^ n) (luma_line c line / 2 ^ n) line
in_row c height zero line few whole least less = absurd (omega (arith, least))
in_row c height (suc n) line few whole least less =
    let some = pow_pos (suc n) in
    in_row_of c height (2 ^ n) (2 ^ suc n) line (twice n) (omega (arith, some)) few whole less
