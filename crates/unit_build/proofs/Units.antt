-- The samples of a unit, and those beside it, by their places.
use Rattle.std.proofs.Common.{◌≡◌, ℕ, ◌+◌, ◌-◌, ◌*◌, ◌/◌, ◌%◌, ◌<◌, ◌≤◌, ◌==◌, ◌&&◌, nat_le, nat_lt, Bool, true}
use Rattle.std.proofs.Common.{false}
use Rattle.std.proofs.Common.{zero, suc, refl, ap, ◌∙◌, if◌then◌else◌, ◌⊎◌, inl, inr, arith}
use Rattle.std.proofs.lemmas.Bool.Decides.{nat_tests}
use Rattle.picture_motion.proofs.PictureLayoutLemmas.{before, block_begins, block_ends}
use Rattle.unit_build.proofs.Places.{below, block_is, column_is, not_before, row_is, times_none, times_some}
use Rattle.unit_build.proofs.Places.{unit_above, unit_is, unit_left}
use Rattle.unit_build.proofs.Tests.{same_tests}

-- a unit has the samples of the picture from its first column and line on, as far as its sides go
pub of_unit : (n w W H a x y : ℕ) → 1 ≤ n → W ≤ n * w
    → ((nat_lt x W && nat_lt y H) && (w * (y / n) + x / n == a))
    ≡ ((nat_le (n * (a % w)) x && (nat_lt x (n * (a % w) + n) && nat_lt x W))
    && (nat_le (n * (a / w)) y && (nat_lt y (n * (a / w) + n) && nat_lt y H)))
of_unit n w W H a x y some covered = same_tests _ _ to from
  where
    to : ((nat_lt x W && nat_lt y H) && (w * (y / n) + x / n == a)) ≡ true
        → ((nat_le (n * (a % w)) x && (nat_lt x (n * (a % w) + n) && nat_lt x W))
        && (nat_le (n * (a / w)) y && (nat_lt y (n * (a / w) + n) && nat_lt y H)))
        ≡ true
    to e =
        let inside : x < W = grind (arith, nat_tests) in
        let unit : w * (y / n) + x / n ≡ a = grind (arith, nat_tests) in
        let q : n * (a % w) ≡ n * (x / n) = ap (λ k. n * k) (column_is n w W a x y some covered inside unit) in
        let r : n * (a / w) ≡ n * (y / n) = ap (λ k. n * k) (row_is n w W a x y some covered inside unit) in
        let xb = block_begins n x in
        let xe = block_ends n x some in
        let yb = block_begins n y in
        let ye = block_ends n y some in
        grind (arith, nat_tests)

    from : ((nat_le (n * (a % w)) x && (nat_lt x (n * (a % w) + n) && nat_lt x W))
        && (nat_le (n * (a / w)) y && (nat_lt y (n * (a / w) + n) && nat_lt y H)))
        ≡ true
        → ((nat_lt x W && nat_lt y H) && (w * (y / n) + x / n == a)) ≡ true
    from e =
        let unit : w * (y / n) + x / n ≡ a =
        unit_is n w a x y (grind (arith, nat_tests)) (grind (arith, nat_tests)) (grind (arith, nat_tests))
        (grind (arith, nat_tests)) in
        grind (arith, nat_tests)

-- the first column of the line above that is of a unit of the slice
abbrev pub first_column : ℕ → ℕ → ℕ → ℕ → ℕ → ℕ
first_column n w slice a column =
    if nat_le (slice + w + 1) a && nat_lt 0 column then 0
    else (if nat_le (slice + w) a then 1 else (if nat_le (slice + w) (a + 1) then n + 1 else 2 * n + 1))

-- whether a sample beside a unit is available, by the unit's first column and line, the sample's column and line, which
-- are counted from 1 there, and the unit that has the sample
abbrev pub seen : ℕ → ℕ → ℕ → ℕ → ℕ → ℕ → ℕ → ℕ → ℕ → ℕ → Bool
seen n W H X Y j k slice a u =
    nat_le j (2 * n)
    && ((nat_le 1 (X + j) && nat_le 1 (Y + k))
    && ((nat_lt (X + j - 1) W && nat_lt (Y + k - 1) H) && (nat_le slice u && nat_lt u a)))

-- whether it is one of the line above that is taken
abbrev pub above : ℕ → ℕ → ℕ → ℕ → ℕ → ℕ → ℕ → Bool
above n W H X Y f j = (nat_le 1 Y && nat_le Y H) && (nat_le f j && (nat_le j (2 * n) && nat_le j (W - X)))

-- column 0
corner : (n w W H X Y slice a c u : ℕ) → 1 ≤ Y → X < W → (c ≡ 0 → X ≡ 0) → (1 ≤ c → n ≤ X) → 1 ≤ n
    → (1 ≤ c → u + w + 1 ≡ a)
    → seen n W H X Y 0 0 slice a u ≡ above n W H X Y (first_column n w slice a c) 0
corner n w W H X Y slice a zero u some inside none more side e = let z = none refl in grind (arith, nat_tests)
corner n w W H X Y slice a (suc c) u some inside none more side e =
    let z = more (omega arith) in let f = e (omega arith) in grind (arith, nat_tests)

-- the columns of the unit above
over : (n w W H X Y slice a c j u : ℕ) → 1 ≤ Y → X < W → 1 ≤ w → 1 ≤ j → j ≤ n → u + w ≡ a
    → seen n W H X Y j 0 slice a u ≡ above n W H X Y (first_column n w slice a c) j
over n w W H X Y slice a c j u some inside wide least most e = grind (arith, nat_tests)

-- those of the unit above on the right
right_of : (n w W H X Y slice a c j u : ℕ) → 1 ≤ Y → X < W → 1 ≤ n → n < j → j ≤ 2 * n → u + w ≡ a + 1
    → (w ≡ 1 → W ≤ X + n) → 1 ≤ w
    → seen n W H X Y j 0 slice a u ≡ above n W H X Y (first_column n w slice a c) j
right_of n w W H X Y slice a zero j u some inside side least most e narrow wide = grind (arith, nat_tests)
right_of n w W H X Y slice a (suc c) j u some inside side least most e narrow wide = grind (arith, nat_tests)

-- where the unit stands in the first row
first_row : (n w W H X Y slice a c j u : ℕ) → Y ≡ 0
    → seen n W H X Y j 0 slice a u ≡ above n W H X Y (first_column n w slice a c) j
first_row n w W H X Y slice a c j u none = grind (arith, nat_tests)

-- past the columns that are asked for
past : (n w W H X Y slice a c j u : ℕ) → 2 * n < j
    → seen n W H X Y j 0 slice a u ≡ above n W H X Y (first_column n w slice a c) j
past n w W H X Y slice a c j u far = grind (arith, nat_tests)

order : (a b : ℕ) → (a ≤ b) ⊎ (b < a)
order a b = by (nat_le a b) refl
  where
    by : (t : Bool) → nat_le a b ≡ t → (a ≤ b) ⊎ (b < a)
    by true e = inl (grind (arith, nat_tests))
    by false e = inr (grind (arith, nat_tests))

-- the unit that has a sample beside the unit at an address
abbrev pub unit_beside : ℕ → ℕ → ℕ → ℕ → ℕ → ℕ
unit_beside n w a j k = w * ((n * (a / w) + k - 1) / n) + (n * (a % w) + j - 1) / n

module _ (n w W H slice a : ℕ) (some : 1 ≤ n) (wide : 1 ≤ w) (covered : W ≤ n * w) (needed : n * (a % w) < W) where
  abbrev Line : ℕ → Type 0
  Line j =
      seen n W H (n * (a % w)) (n * (a / w)) j 0 slice a (unit_beside n w a j 0)
      ≡ above n W H (n * (a % w)) (n * (a / w)) (first_column n w slice a (a % w)) j

  line_corner : 1 ≤ a / w → Line 0
  line_corner lower =
      let rows = times_some n (a / w) lower in
      corner n w W H (n * (a % w)) (n * (a / w)) slice a (a % w) (unit_beside n w a 0 0) (omega (arith, rows)) needed
      (times_none n (a % w)) (times_some n (a % w)) some
      (λ right.
      let last = before n (a % w) right in
      let q : (n * (a % w) + 0 - 1) / n ≡ a % w - 1 =
      block_is n (a % w - 1) (n * (a % w) + 0 - 1) (omega (arith, last)) (omega (arith, last)) in
      let u = unit_above n w a (n * (a % w) + 0 - 1) (a % w - 1) some lower q in
      let same : n * (a / w) + 0 - 1 ≡ n * (a / w) - 1 = omega arith in
      let e : w * ((n * (a / w) + 0 - 1) / n) + (n * (a % w) + 0 - 1) / n + w + a % w ≡ a + (a % w - 1) =
      ap (λ y. w * (y / n) + (n * (a % w) + 0 - 1) / n + w + a % w) same ∙ u in
      omega (arith, e))

  line_over : (j : ℕ) → 1 ≤ a / w → 1 ≤ j → j ≤ n → Line j
  line_over j lower least most =
      let rows = times_some n (a / w) lower in
      let q : (n * (a % w) + j - 1) / n ≡ a % w =
      block_is n (a % w) (n * (a % w) + j - 1) (omega arith) (omega arith) in
      let u = unit_above n w a (n * (a % w) + j - 1) (a % w) some lower q in
      let same : n * (a / w) + 0 - 1 ≡ n * (a / w) - 1 = omega arith in
      let e : w * ((n * (a / w) + 0 - 1) / n) + (n * (a % w) + j - 1) / n + w + a % w ≡ a + a % w =
      ap (λ y. w * (y / n) + (n * (a % w) + j - 1) / n + w + a % w) same ∙ u in
      over n w W H (n * (a % w)) (n * (a / w)) slice a (a % w) j (unit_beside n w a j 0) (omega (arith, rows)) needed
      wide least most (omega (arith, e))

  line_right : (j : ℕ) → 1 ≤ a / w → n < j → j ≤ 2 * n → Line j
  line_right j lower least most =
      let rows = times_some n (a / w) lower in
      let next : n * (a % w + 1) ≡ n * (a % w) + n = grind arith in
      let q : (n * (a % w) + j - 1) / n ≡ a % w + 1 =
      block_is n (a % w + 1) (n * (a % w) + j - 1) (omega (arith, next)) (omega (arith, next)) in
      let u = unit_above n w a (n * (a % w) + j - 1) (a % w + 1) some lower q in
      let same : n * (a / w) + 0 - 1 ≡ n * (a / w) - 1 = omega arith in
      let e : w * ((n * (a / w) + 0 - 1) / n) + (n * (a % w) + j - 1) / n + w + a % w ≡ a + (a % w + 1) =
      ap (λ y. w * (y / n) + (n * (a % w) + j - 1) / n + w + a % w) same ∙ u in
      right_of n w W H (n * (a % w)) (n * (a / w)) slice a (a % w) j (unit_beside n w a j 0) (omega (arith, rows))
      needed some least most (omega (arith, e))
      (λ one. let all : n * w ≡ n * 1 = ap (λ k. n * k) one in
      let whole : n * 1 ≡ n = grind arith in omega (arith, covered, all, whole))
      wide

  by_row : (j : ℕ) → (a / w ≤ 0) ⊎ (0 < a / w) → Line j
  by_row j (inl none) =
      first_row n w W H (n * (a % w)) (n * (a / w)) slice a (a % w) j (unit_beside n w a j 0)
      (times_none n (a / w) (omega (arith, none)))
  by_row zero (inr lower) = line_corner lower
  by_row (suc j) (inr lower) = by_column (order (suc j) n)
    where
      by_end : n < suc j → (suc j ≤ 2 * n) ⊎ (2 * n < suc j) → Line (suc j)
      by_end least (inl most) = line_right (suc j) lower least most
      by_end least (inr far) =
          past n w W H (n * (a % w)) (n * (a / w)) slice a (a % w) (suc j) (unit_beside n w a (suc j) 0) far

      by_column : (suc j ≤ n) ⊎ (n < suc j) → Line (suc j)
      by_column (inl most) = line_over (suc j) lower (omega arith) most
      by_column (inr least) = by_end least (order (suc j) (2 * n))

  -- the line above
  pub line_is : (j : ℕ) → Line j
  line_is j = by_row j (order (a / w) 0)

  abbrev Column : ℕ → Type 0
  Column k = seen n W H (n * (a % w)) (n * (a / w)) 0 (suc k) slice a (unit_beside n w a 0 (suc k))
      ≡ ((nat_lt 0 (a % w) && nat_lt slice a) && (nat_le (suc k) n && nat_le (suc k) (H - n * (a / w))))

  column_near : (k : ℕ) → suc k ≤ n → 1 ≤ a % w → Column k
  column_near k near right =
      let columns = times_some n (a % w) right in
      let u = unit_left n w a (n * (a / w) + suc k - 1) some right (omega arith) (omega arith) in
      let same : n * (a % w) + 0 - 1 ≡ n * (a % w) - 1 = omega arith in
      let e : unit_beside n w a 0 (suc k) + 1 ≡ a =
      ap (λ x. w * ((n * (a / w) + suc k - 1) / n) + x / n + 1) same ∙ u in
      grind (arith, nat_tests)

  column_far : (k : ℕ) → n < suc k → 1 ≤ a % w → Column k
  column_far k far right =
      let u : a ≤ unit_beside n w a 0 (suc k) =
      below n w a (n * (a % w) + 0 - 1) (n * (a / w) + suc k - 1) some wide (omega arith) in
      grind (arith, nat_tests)

  by_left : (k : ℕ) → (a % w ≤ 0) ⊎ (0 < a % w) → (suc k ≤ n) ⊎ (n < suc k) → Column k
  by_left k (inl none) t = let x = times_none n (a % w) (omega (arith, none)) in grind (arith, nat_tests)
  by_left k (inr right) (inl near) = column_near k near right
  by_left k (inr right) (inr far) = column_far k far right

  -- the column on the left
  pub column_is_left : (k : ℕ) → Column k
  column_is_left k = by_left k (order (a % w) 0) (order (suc k) n)

  -- what isn't beside the unit
  pub none_inside : (j k : ℕ)
      → seen n W H (n * (a % w)) (n * (a / w)) (suc j) (suc k) slice a (unit_beside n w a (suc j) (suc k)) ≡ false
  none_inside j k =
      let u : a ≤ unit_beside n w a (suc j) (suc k) =
      not_before n w a (n * (a % w) + suc j - 1) (n * (a / w) + suc k - 1) some (omega arith) (omega arith) in
      grind (arith, nat_tests)
