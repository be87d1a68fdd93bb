-- How many places the units of a picture have, and where they stand.
use Rattle.std.proofs.Common.{◌≡◌, ℕ, ◌+◌, ◌-◌, ◌*◌, ◌/◌, ◌%◌, ◌^◌, ◌<◌, ◌≤◌}
use Rattle.std.proofs.Common.{min, sym, ap, subst, ◌∙◌, arith}
use Rattle.std.proofs.Math.Nat.{div-mul-le_self, mul-le-mul_left, mul-le-mul_right}
use Rattle.header_types.specs.SequenceParameterSets.{blocks_across}
use Rattle.picture_layout.proofs.Sizes.{covers, four}
use Rattle.sample_words.specs.declared.sizes.FlightSizes.{FlightSizes}
use Rattle.sample_words.specs.Sizes.{IsFlight, columns, ctb_size, height_of, rows, width_of}
use Rattle.sample_words.proofs.Bounds.{greatest_side, least_side}
use Rattle.filter_words.specs.Units.{unit_side}

-- a unit of a side begins before its end
begins_before : (side samples k : ℕ) → 0 < side → k < (samples + (side - 1)) / side → k * side < samples
begins_before side samples k some less =
    let low = div-mul-le_self (samples + (side - 1)) side in
    let most : (k + 1) * side ≤ (samples + (side - 1)) / side * side = mul-le-mul_right side (omega (arith, less)) in
    let next : (k + 1) * side ≡ k * side + side = grind arith in
    omega (arith, low, most, next, some)

-- the places of a unit of n places, the k-th of a side of w places, of which the picture has a
pub record IsAlong (n w k a : ℕ) : Type 0 where
  pub starts : n * k < w
  pub some : 2 ≤ a
  pub few : a ≤ n
  pub ends : n * k + a ≡ min (n * (k + 1)) w

along : (n h w k : ℕ) → n ≡ 4 * h → 1 ≤ n → w % 8 ≡ 0 → k * (4 * n) < w
    → IsAlong n (w / 4) k (min (4 * n) (w - k * (4 * n)) / 4)
along n h w k four some whole less =
    let e : k * (4 * n) ≡ 4 * (n * k) = grind arith in
    let m : n * (k + 1) ≡ n * k + n = grind arith in
    let turned : 4 * h * k ≡ 4 * (h * k) = grind arith in
    let times : n * k ≡ 4 * (h * k) = ap (λ i. i * k) four ∙ turned in
    record {
      starts = omega (arith, e, less, whole);
      some = omega (arith, e, less, whole, some, four, times);
      few = omega (arith, e);
      ends = omega (arith, e, m, less, whole);
    }

module _ (s : FlightSizes) (is : IsFlight s) where
  pub whole : ctb_size s ≡ 4 * unit_side s
  whole = let f = four s.ctb_log2 (omega (arith, is.least_unit)) in omega (arith, f)

  pub some_places : 4 ≤ unit_side s
  some_places = let least = least_side s is in omega (arith, least)

  fours : unit_side s ≡ 4 * 2 ^ (s.ctb_log2 - 2 - 2)
  fours =
      let f = four s.ctb_log2 (omega (arith, is.least_unit)) in
      let g = four (s.ctb_log2 - 2) (omega (arith, is.least_unit)) in
      omega (arith, f, g)

  pub few_places : unit_side s ≤ 16
  few_places = let most = greatest_side s is in omega (arith, most)

  wide : 0 < ctb_size s
  wide = let least = least_side s is in omega (arith, least)

  turned : (k : ℕ) → k * ctb_size s ≡ k * (4 * unit_side s)
  turned k = ap (λ m. k * m) whole

  pub column_along : (x : ℕ) → x < columns s → IsAlong (unit_side s) (s.width / 4) x (width_of s x / 4)
  unfolding columns width_of
  column_along x less =
      let begins = begins_before (ctb_size s) s.width x wide less in
      let e = turned x in
      subst (λ c. IsAlong (unit_side s) (s.width / 4) x (min c (s.width - x * c) / 4)) (sym whole)
      (along (unit_side s) (2 ^ (s.ctb_log2 - 2 - 2)) s.width x fours (omega (arith, some_places)) is.whole_columns
      (omega (arith, begins, e)))

  pub row_along : (row : ℕ) → row < rows s → IsAlong (unit_side s) (s.height / 4) row (height_of s row / 4)
  unfolding rows height_of
  row_along row less =
      let begins = begins_before (ctb_size s) s.height row wide less in
      let e = turned row in
      subst (λ c. IsAlong (unit_side s) (s.height / 4) row (min c (s.height - row * c) / 4)) (sym whole)
      (along (unit_side s) (2 ^ (s.ctb_log2 - 2 - 2)) s.height row fours (omega (arith, some_places)) is.whole_rows
      (omega (arith, begins, e)))

  -- the units of a row have all its places
  pub columns_cover : s.width / 4 ≤ unit_side s * columns s
  unfolding blocks_across columns
  columns_cover =
      let f = four s.ctb_log2 (omega (arith, is.least_unit)) in
      let side : 2 ^ (s.ctb_log2 - 2) ≡ unit_side s = omega (arith, f) in
      let c : s.width / 4 ≤ 2 ^ (s.ctb_log2 - 2) * columns s =
      covers s.width s.ctb_log2 (omega (arith, is.least_unit)) wide (omega (arith, is.whole_columns)) in
      subst (λ n. s.width / 4 ≤ n * columns s) side c

-- a row of places of a row of units is one of three rows of units
pub in_three : (n row j above : ℕ) → above ≤ row → row ≤ above + 2 → j < n
    → (n * above ≤ n * row + j) × (n * row + j < n * (above + 3))
in_three n row j above low high less =
    let a : n * above ≤ n * row = mul-le-mul_left n low in
    let b : n * (row + 1) ≤ n * (above + 3) = mul-le-mul_left n (omega (arith, high)) in
    let c : n * (row + 1) ≡ n * row + n = grind arith in
    (omega (arith, a), omega (arith, b, c, less))
