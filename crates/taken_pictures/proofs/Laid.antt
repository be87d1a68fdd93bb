-- The motion of a unit, laid row of places by row of places.
use Rattle.std.proofs.Common.{◌≡◌, ℕ, ◌+◌, ◌-◌, ◌<◌, ◌≤◌, ◌&&◌, ◌==◌, true, cond, nat_le, nat_lt}
use Rattle.std.proofs.Common.{sym, ap, ◌∙◌, arith, inl, inr}
use Rattle.std.proofs.lemmas.Bool.{cases_Bool, cases_lt}
use Rattle.std.proofs.lemmas.Bool.Decides.{nat_tests}
use Rattle.taken_pictures.proofs.Tests.{same_test}

-- one more row
pub row_more : {M : Type 0} (X Y w y : ℕ) (old mid new m : ℕ → ℕ → M) (kept : ℕ → M)
    → ((i j : ℕ) → mid i j
    ≡ cond ((nat_le Y j && nat_lt j (Y + y)) && (nat_le X i && nat_lt i (X + w))) (m i j) (old i j))
    → ((i j : ℕ) → new i j ≡ cond (j == Y + y && (nat_le X i && nat_lt i (X + w))) (kept (i - X)) (mid i j))
    → ((i : ℕ) → i < w → kept i ≡ m (X + i) (Y + y))
    → (i j : ℕ) → new i j
    ≡ cond ((nat_le Y j && nat_lt j (Y + (y + 1))) && (nat_le X i && nat_lt i (X + w))) (m i j) (old i j)
row_more X Y w y old mid new m kept before laid are i j =
    elim (cases_Bool (j == Y + y && (nat_le X i && nat_lt i (X + w)))) [
      | inl here ↦
          let inside : i - X < w = grind (arith, nat_tests) in
          let column : X + (i - X) ≡ i = grind (arith, nat_tests) in
          let row : Y + y ≡ j = grind (arith, nat_tests) in
          let after : ((nat_le Y j && nat_lt j (Y + (y + 1))) && (nat_le X i && nat_lt i (X + w))) ≡ true =
          grind (arith, nat_tests) in
          laid i j
          ∙ (ap (λ b. cond b (kept (i - X)) (mid i j)) here
          ∙ (are (i - X) inside
          ∙ ((λ t. m (column t) (row t)) ∙ sym (ap (λ b. cond b (m i j) (old i j)) after))))
      | inr there ↦
          let same : ((nat_le Y j && nat_lt j (Y + y)) && (nat_le X i && nat_lt i (X + w)))
          ≡ ((nat_le Y j && nat_lt j (Y + (y + 1))) && (nat_le X i && nat_lt i (X + w))) =
          same_test _ _ (λ e. grind (arith, nat_tests)) (λ e. grind (arith, nat_tests)) in
          laid i j
          ∙ (ap (λ b. cond b (kept (i - X)) (mid i j)) there
          ∙ (before i j ∙ ap (λ b. cond b (m i j) (old i j)) same))
    ]

-- places from a column on that have the motion of the first of them: one, and one more
pub run_begun : {M : Type 0} (f : ℕ → M) (column i : ℕ) → column ≤ i → i < column + 1 → f i ≡ f column
run_begun f column i low high = let e : i ≡ column = omega (arith, low, high) in ap f e

pub run_more : {M : Type 0} (f : ℕ → M) (column end : ℕ)
    → ((i : ℕ) → column ≤ i → i < end → f i ≡ f column) → f end ≡ f column
    → (i : ℕ) → column ≤ i → i < end + 1 → f i ≡ f column
run_more f column end before here i low high =
    elim (cases_lt i end) [
      | inl less ↦ before i low less
      | inr past ↦ let e : i ≡ end = omega (arith, past, high) in ap f e ∙ here
    ]

-- such places of a row are laid
pub run_laid : {M : Type 0} (x y column end : ℕ) (motion : M) (kept : ℕ → M) (old mid new : ℕ → ℕ → M)
    → column < end → motion ≡ kept column
    → ((k : ℕ) → column ≤ k → k < end → kept k ≡ kept column)
    → ((i j : ℕ) → mid i j ≡ cond (j == y && (nat_le x i && nat_lt i (x + column))) (kept (i - x)) (old i j))
    → ((i j : ℕ) → new i j
    ≡ cond (j == y && (nat_le (x + column) i && nat_lt i (x + column + (end - column)))) motion (mid i j))
    → (i j : ℕ) → new i j ≡ cond (j == y && (nat_le x i && nat_lt i (x + end))) (kept (i - x)) (old i j)
run_laid x y column end motion kept old mid new more is same before laid i j =
    elim (cases_Bool (j == y && (nat_le (x + column) i && nat_lt i (x + column + (end - column))))) [
      | inl here ↦
          let low : column ≤ i - x = grind (arith, nat_tests) in
          let high : i - x < end = grind (arith, nat_tests) in
          let after : (j == y && (nat_le x i && nat_lt i (x + end))) ≡ true = grind (arith, nat_tests) in
          laid i j
          ∙ (ap (λ b. cond b motion (mid i j)) here
          ∙ (is ∙ (sym (same (i - x) low high) ∙ sym (ap (λ b. cond b (kept (i - x)) (old i j)) after))))
      | inr there ↦
          let tests : (j == y && (nat_le x i && nat_lt i (x + column)))
          ≡ (j == y && (nat_le x i && nat_lt i (x + end))) =
          same_test _ _ (λ e. grind (arith, nat_tests)) (λ e. grind (arith, nat_tests)) in
          laid i j
          ∙ (ap (λ b. cond b motion (mid i j)) there
          ∙ (before i j ∙ ap (λ b. cond b (kept (i - x)) (old i j)) tests))
    ]
