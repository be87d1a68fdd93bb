-- What is known beside a unit stands at its border.
use Rattle.std.proofs.Common.{◌≡◌, ℕ, zero, suc, ◌+◌, ◌-◌, ◌*◌, ◌/◌, ◌%◌, ◌<◌, ◌≤◌, ◌==◌, ◌&&◌, ◌||◌, nat_le, nat_lt}
use Rattle.std.proofs.Common.{Bool, true, false, refl, arith}
use Rattle.std.proofs.lemmas.Bool.Decides.{nat_tests}
use Rattle.locality_laws.specs.Beside.{is_at_border}
use Rattle.locality_laws.proofs.Places.{not_before, not_below}

-- in the line above
pub line_at : (n X Y j : ℕ) → 1 ≤ n → 1 ≤ X + j → 1 ≤ Y → j ≤ 2 * n → is_at_border n X Y (X + j - 1) (Y + 0 - 1) ≡ true
line_at n X Y j some right low few = grind (arith, nat_tests)

-- in the column on the left
pub column_at : (n X Y k : ℕ) → 1 ≤ X → k < n → is_at_border n X Y (X + 0 - 1) (Y + suc k - 1) ≡ true
column_at n X Y k right few = grind (arith, nat_tests)

module _ (n w a : ℕ) (some : 1 ≤ n) (wide : 1 ≤ w) where
  abbrev u : ℕ → ℕ → ℕ
  u x y = w * (y / n) + x / n

  below_none : (k : ℕ) → n ≤ k → u (n * (a % w) + 0 - 1) (n * (a / w) + suc k - 1) < a → ⊥
  below_none k far earlier =
      let no = not_below n w a (n * (a % w) + 0 - 1) (n * (a / w) + suc k - 1) some wide (omega (arith, far)) in
      omega (arith, no, earlier)

  -- a place that is counted from 1 at a unit's first one, of a unit that is decoded before
  pub beside_is : (j k : ℕ) → 1 ≤ n * (a % w) + j → 1 ≤ n * (a / w) + k → j ≤ 2 * n
      → u (n * (a % w) + j - 1) (n * (a / w) + k - 1) < a
      → is_at_border n (n * (a % w)) (n * (a / w)) (n * (a % w) + j - 1) (n * (a / w) + k - 1) ≡ true
  beside_is j zero right low few earlier =
      line_at n (n * (a % w)) (n * (a / w)) j some right (omega (arith, low)) few
  beside_is zero (suc k) right low few earlier = by_end (nat_lt k n) refl
    where
      by_end : (t : Bool) → nat_lt k n ≡ t
          → is_at_border n (n * (a % w)) (n * (a / w)) (n * (a % w) + 0 - 1) (n * (a / w) + suc k - 1) ≡ true
      by_end true e = column_at n (n * (a % w)) (n * (a / w)) k (omega (arith, right)) (grind (arith, nat_tests))
      by_end false e = absurd (below_none k (grind (arith, nat_tests)) earlier)
  beside_is (suc j) (suc k) right low few earlier =
      let no = not_before n w a (n * (a % w) + suc j - 1) (n * (a / w) + suc k - 1) some (omega arith) (omega arith) in
      absurd (omega (arith, no, earlier))
