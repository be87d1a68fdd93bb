-- Places in units, and the units beside one.
use Rattle.std.proofs.Common.{◌≡◌, ℕ, zero, suc, ◌+◌, ◌-◌, ◌*◌, ◌/◌, ◌%◌, ◌<◌, ◌≤◌, ◌==◌, ◌&&◌, ◌||◌, nat_le, nat_lt}
use Rattle.std.proofs.Common.{Bool, true, false, ap, ◌∙◌, ◌⊎◌, inl, inr, arith}
use Rattle.std.proofs.Math.Nat.{mod-lt, mul-le-mul_left}
use Rattle.std.proofs.lemmas.Nat.{div-mul-add, le-div}
use Rattle.std.proofs.lemmas.Bool.{cases_lt}
use Rattle.std.proofs.lemmas.Bool.Decides.{nat_tests}
use Rattle.picture_layout.proofs.Places.{before, whole}
use Rattle.locality_laws.specs.Beside.{IsOneOfFour, OnLeft, AboveOnLeft, Above, AboveOnRight, is_at_border}

-- the block of a place
block_is : (n q x : ℕ) → n * q ≤ x → x < n * q + n → x / n ≡ q
block_is n q x le lt =
    let e : x ≡ q * n + (x - n * q) = grind arith in
    ap (λ k. k / n) e ∙ div-mul-add q n (x - n * q) (omega arith)

-- a number by its row and its column
by_row : (a w : ℕ) → w * (a / w) + a % w ≡ a
by_row a w = let e = whole a w in grind arith

-- there is one unit in a column and a row
pub same_address : (a b w : ℕ) → a % w ≡ b % w → a / w ≡ b / w → a ≡ b
same_address a b w e f =
    let rows : w * (a / w) ≡ w * (b / w) = ap (λ k. w * k) f in
    omega (arith, by_row a w, by_row b w, e, rows)

-- the unit at a place of one
pub unit_is_at : (n w a x y : ℕ) → n * (a % w) ≤ x → x < n * (a % w) + n → n * (a / w) ≤ y → y < n * (a / w) + n
    → w * (y / n) + x / n ≡ a
unit_is_at n w a x y xl xh yl yh =
    let q = block_is n (a % w) x xl xh in
    let r : w * (y / n) ≡ w * (a / w) = ap (λ k. w * k) (block_is n (a / w) y yl yh) in
    let at = by_row a w in
    omega (arith, q, r, at)

-- a place right of a unit's first column and below its first line is of no unit before it
pub not_before : (n w a x y : ℕ) → 1 ≤ n → n * (a % w) ≤ x → n * (a / w) ≤ y → a ≤ w * (y / n) + x / n
not_before n w a x y some xl yl =
    let xl' : a % w * n ≤ x = grind arith in
    let yl' : a / w * n ≤ y = grind arith in
    let q = le-div (a % w) x n some xl' in
    let r = le-div (a / w) y n some yl' in
    let rows : w * (a / w) ≤ w * (y / n) = mul-le-mul_left w r in
    let at = by_row a w in
    omega (arith, q, rows, at)

-- a place in a row below the unit is of no unit before it
pub not_below : (n w a x y : ℕ) → 1 ≤ n → 1 ≤ w → n * (a / w) + n ≤ y → a ≤ w * (y / n) + x / n
not_below n w a x y some wide yl =
    let yl' : (a / w + 1) * n ≤ y = grind arith in
    let r = le-div (a / w + 1) y n some yl' in
    let rows : w * (a / w + 1) ≤ w * (y / n) = mul-le-mul_left w r in
    let at = by_row a w in
    let more : w * (a / w + 1) ≡ w * (a / w) + w = grind arith in
    let column = mod-lt a wide in
    omega (arith, rows, at, more, column)

-- the last column or line before a unit's first one is of the unit before
last_before : (n q x : ℕ) → 1 ≤ n → x + 1 ≡ n * q → (1 ≤ q) × (x / n + 1 ≡ q)
last_before n zero x some e = absurd (let none : n * 0 ≡ 0 = grind arith in omega (arith, e, none))
last_before n (suc q) x some e =
    let next : n * suc q ≡ n * q + n = grind arith in
    let at : x / n ≡ q = block_is n q x (omega (arith, e, next)) (omega (arith, e, next)) in
    (omega arith, omega (arith, at))

-- the unit in a column of the row above
row_above : (n w a x y q : ℕ) → 1 ≤ n → y + 1 ≡ n * (a / w) → x / n ≡ q → w * (y / n) + x / n + w + a % w ≡ a + q
row_above n w a x y q some e column =
    let r = last_before n (a / w) y some e in
    let next : w * (y / n + 1) ≡ w * (y / n) + w = grind arith in
    let rows : w * (y / n + 1) ≡ w * (a / w) = ap (λ k. w * k) r.1 in
    let at = by_row a w in
    omega (arith, next, rows, at, column)

module _ (n w a x y : ℕ) (some : 1 ≤ n) where
  pub left_of : x + 1 ≡ n * (a % w) → n * (a / w) ≤ y → y < n * (a / w) + n → w * (y / n) + x / n + 1 ≡ a
  left_of e low high =
      let q = last_before n (a % w) x some e in
      let r : w * (y / n) ≡ w * (a / w) = ap (λ k. w * k) (block_is n (a / w) y low high) in
      let at = by_row a w in
      omega (arith, q.1, r, at)

  above_left_of : x + 1 ≡ n * (a % w) → y + 1 ≡ n * (a / w) → w * (y / n) + x / n + w + 1 ≡ a
  above_left_of e f =
      let q = last_before n (a % w) x some e in
      let u = row_above n w a x y (x / n) some f (omega arith) in
      omega (arith, q.1, u)

  pub above_of : n * (a % w) ≤ x → x < n * (a % w) + n → y + 1 ≡ n * (a / w) → w * (y / n) + x / n + w ≡ a
  above_of low high f =
      let u = row_above n w a x y (a % w) some f (block_is n (a % w) x low high) in
      omega (arith, u)

  above_right_of : n * (a % w) + n ≤ x → x < n * (a % w) + 2 * n → y + 1 ≡ n * (a / w)
      → w * (y / n) + x / n + w ≡ a + 1
  above_right_of low high f =
      let next : n * (a % w + 1) ≡ n * (a % w) + n = grind arith in
      let q : x / n ≡ a % w + 1 = block_is n (a % w + 1) x (omega (arith, next, low)) (omega (arith, next, high)) in
      let u = row_above n w a x y (a % w + 1) some f q in
      omega (arith, u)

  -- the parts of the border
  in_line : y + 1 ≡ n * (a / w) → n * (a % w) ≤ x + 1 → x < n * (a % w) + 2 * n
      → IsOneOfFour w a (w * (y / n) + x / n)
  in_line f low high = by_first (cases_lt x (n * (a % w))) (cases_lt x (n * (a % w) + n))
    where
      by_first : (x < n * (a % w)) ⊎ (n * (a % w) ≤ x) → (x < n * (a % w) + n) ⊎ (n * (a % w) + n ≤ x)
          → IsOneOfFour w a (w * (y / n) + x / n)
      by_first (inl past) end = AboveOnLeft (above_left_of (omega (arith, past, low)) f)
      by_first (inr from) (inl near) = Above (above_of from near f)
      by_first (inr from) (inr far) = AboveOnRight (above_right_of far high f)

  at_line : (y + 1 == n * (a / w) && (nat_le (n * (a % w)) (x + 1) && nat_lt x (n * (a % w) + 2 * n))) ≡ true
      → IsOneOfFour w a (w * (y / n) + x / n)
  at_line t = in_line (grind (arith, nat_tests)) (grind (arith, nat_tests)) (grind (arith, nat_tests))

  at_column : (x + 1 == n * (a % w) && (nat_le (n * (a / w)) y && nat_lt y (n * (a / w) + n))) ≡ true
      → IsOneOfFour w a (w * (y / n) + x / n)
  at_column t = OnLeft (left_of (grind (arith, nat_tests)) (grind (arith, nat_tests)) (grind (arith, nat_tests)))

  at_either : (b c : Bool) → (b || c) ≡ true → (b ≡ true → IsOneOfFour w a (w * (y / n) + x / n))
      → (c ≡ true → IsOneOfFour w a (w * (y / n) + x / n)) → IsOneOfFour w a (w * (y / n) + x / n)
  at_either true c t line column = line t
  at_either false c t line column = column t

  pub at_border : is_at_border n (n * (a % w)) (n * (a / w)) x y ≡ true → IsOneOfFour w a (w * (y / n) + x / n)
  at_border t = at_either _ _ t at_line at_column
