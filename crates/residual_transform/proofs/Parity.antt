-- A sum by its even and its odd terms, and what symmetry makes of it.
use Rattle.std.proofs.Common.{◌≡◌, ℕ, zero, suc, ◌+◌, ◌-◌, ◌*◌, ◌/◌, ◌%◌, ◌<◌, ◌≤◌, ℤ, neg_ℤ, ◌+ℤ◌, ◌-ℤ◌, ◌*ℤ◌}
use Rattle.std.proofs.Common.{List, refl, ap, ◌∙◌, subst, ⊎_elim, arith}
use Rattle.std.proofs.lemmas.Int.{ints}
use Rattle.std.proofs.lemmas.Bool.{cases_lt}
use Rattle.spec_arithmetic.specs.Sums.{int_sum_below}
use Rattle.spec_transforms.specs.Matrices.{at, matrix_in}
use Rattle.spec_transforms.proofs.Sums.{sum_same}
use Rattle.residual_transform.specs.Sums.{IsMatrix}

-- the terms below an even number
pairs : (h : ℕ) (f : ℕ → ℤ)
    → int_sum_below (2 * h) f ≡ int_sum_below h (λ k. f (2 * k + 0)) +ℤ int_sum_below h (λ k. f (2 * k + 1))
pairs zero f = refl
pairs (suc h) f =
    let below : int_sum_below (2 * h) f ≡ int_sum_below h (λ k. f (2 * k + 0)) +ℤ int_sum_below h (λ k. f
    (2 * k + 1)) = pairs h f in
    let e : 2 * suc h ≡ suc (suc (2 * h)) = omega arith in
    let z : 2 * h + 0 ≡ 2 * h = omega arith in
    let o : 2 * h + 1 ≡ suc (2 * h) = omega arith in
    rw (e, z, o) (omega (arith, ints, below))

even_count : (n : ℕ) (f : ℕ → ℤ) → n % 2 < 1 → int_sum_below n f
    ≡ int_sum_below ((n + 1) / 2) (λ k. f (2 * k + 0)) +ℤ int_sum_below (n / 2) (λ k. f (2 * k + 1))
even_count n f even =
    let e : n ≡ 2 * (n / 2) = omega (arith, even) in
    let h : (n + 1) / 2 ≡ n / 2 = omega (arith, even) in
    rw h (ap (λ (m : ℕ). int_sum_below m f) e ∙ pairs (n / 2) f)

odd_count : (n : ℕ) (f : ℕ → ℤ) → 1 ≤ n % 2 → int_sum_below n f
    ≡ int_sum_below ((n + 1) / 2) (λ k. f (2 * k + 0)) +ℤ int_sum_below (n / 2) (λ k. f (2 * k + 1))
odd_count n f odd =
    let e : n ≡ suc (2 * (n / 2)) = omega (arith, odd) in
    let h : (n + 1) / 2 ≡ suc (n / 2) = omega (arith, odd) in
    let z : 2 * (n / 2) + 0 ≡ 2 * (n / 2) = omega arith in
    let below = pairs (n / 2) f in
    let all : int_sum_below n f ≡ int_sum_below (2 * (n / 2)) f +ℤ f (2 * (n / 2)) = ap (λ
    (m : ℕ). int_sum_below m f) e in
    rw (h, z) (omega (arith, ints, below, all))

by_parity : (n : ℕ) (f : ℕ → ℤ) → int_sum_below n f
    ≡ int_sum_below ((n + 1) / 2) (λ k. f (2 * k + 0)) +ℤ int_sum_below (n / 2) (λ k. f (2 * k + 1))
by_parity n f = ⊎_elim (even_count n f) (odd_count n f) (cases_lt (n % 2) 1)

opposite : (n : ℕ) (f g : ℕ → ℤ) → ((k : ℕ) → k < n → f k ≡ neg_ℤ (g k)) → int_sum_below n f ≡ neg_ℤ (int_sum_below n g)
opposite zero f g each = refl
opposite (suc n) f g each =
    let below : int_sum_below n f ≡ neg_ℤ (int_sum_below n g) = opposite n f g (λ k l. each k (omega arith)) in
    let last : f n ≡ neg_ℤ (g n) = each n (omega arith) in
    omega (arith, ints, below, last)

neg_mul : (a b : ℤ) → neg_ℤ a *ℤ b ≡ neg_ℤ (a *ℤ b)
neg_mul a b = grind (arith, ints)

-- what the transform of a column adds up at a place, and what the even or the odd rows of the matrix do
abbrev pub all_rows : (entries values : List ℤ) (stride size column n j : ℕ) → ℤ
all_rows entries values stride size column n j =
    int_sum_below n (λ k. matrix_in entries stride k j *ℤ at values (size * k + column))

abbrev pub every_other_row : (entries values : List ℤ) (stride size column first n j : ℕ) → ℤ
every_other_row entries values stride size column first n j =
    int_sum_below n (λ k. matrix_in entries stride (2 * k + first) j *ℤ at values (size * (2 * k + first) + column))

-- from the back, the odd terms are opposite
from_back : (entries values : List ℤ) (stride size column n j : ℕ) → IsMatrix entries stride size → 4 < size
    → n ≤ size → j < size
    → all_rows entries values stride size column n (size - 1 - j)
    ≡ every_other_row entries values stride size column 0 ((n + 1) / 2) j
    -ℤ every_other_row entries values stride size column 1 (n / 2) j
from_back entries values stride size column n j matrix large few inside =
    let split = by_parity n (λ k. matrix_in entries stride k (size - 1 - j) *ℤ at values (size * k + column)) in
    let even : every_other_row entries values stride size column 0 ((n + 1) / 2) (size - 1 - j)
    ≡ every_other_row entries values stride size column 0 ((n + 1) / 2) j =
    sum_same ((n + 1) / 2) _ _ (λ k l.
    let z : 2 * k + 0 ≡ 2 * k = omega arith in
    let same : matrix_in entries stride (2 * k) (size - 1 - j) ≡ matrix_in entries stride (2 * k) j =
    matrix.even large k j (omega (arith, few, l)) inside in
    rw (z, same) refl) in
    let odd : every_other_row entries values stride size column 1 (n / 2) (size - 1 - j)
    ≡ neg_ℤ (every_other_row entries values stride size column 1 (n / 2) j) =
    opposite (n / 2) _ _ (λ k l.
    ap (λ (z : ℤ). z *ℤ at values (size * (2 * k + 1) + column))
    (matrix.odd large k j (omega (arith, few, l)) inside)
    ∙ neg_mul (matrix_in entries stride (2 * k + 1) j) (at values (size * (2 * k + 1) + column))) in
    omega (arith, ints, split, even, odd)

-- sums from both ends, by those of the even and the odd rows along the first half
pub from_both_ends : (sums even odd entries values : List ℤ) (stride size half column n evens j : ℕ)
    → IsMatrix entries stride size → 4 < size → 2 * half ≡ size → n ≤ size → evens ≡ (n + 1) / 2
    → ((i : ℕ) → i < half → at even i ≡ every_other_row entries values stride size column 0 evens i)
    → ((i : ℕ) → i < half → at odd i ≡ every_other_row entries values stride size column 1 (n / 2) i)
    → ((i : ℕ) → i < half → at sums i ≡ at even i +ℤ at odd i)
    → ((i : ℕ) → i < half → at sums (size - 1 - i) ≡ at even i -ℤ at odd i)
    → j < size → at sums j ≡ all_rows entries values stride size column n j
from_both_ends sums even odd entries values stride size half column n evens j
    matrix large halves few is even_is odd_is front back inside = ⊎_elim
    (λ near.
    let split = by_parity n (λ k. matrix_in entries stride k j *ℤ at values (size * k + column)) in
    let e : at even j ≡ every_other_row entries values stride size column 0 ((n + 1) / 2) j = rw is at
    (even_is j near) in
    let o = odd_is j near in
    let both = front j near in
    omega (arith, ints, split, e, o, both))
    (λ far.
    let near : size - 1 - j < half = omega (arith, far, halves, inside) in
    let again : size - 1 - (size - 1 - j) ≡ j = omega (arith, inside) in
    let split = from_back entries values stride size column n (size - 1 - j) matrix large few (omega (arith, inside)) in
    let e : at even (size - 1 - j) ≡ every_other_row entries values stride size column 0 ((n + 1) / 2) (size - 1 - j) =
    rw is at (even_is (size - 1 - j) near) in
    let o = odd_is (size - 1 - j) near in
    let both = back (size - 1 - j) near in
    let told : at sums (size - 1 - (size - 1 - j))
    ≡ all_rows entries values stride size column n (size - 1 - (size - 1 - j)) =
    omega (arith, ints, split, e, o, both) in
    subst (λ (m : ℕ). at sums m ≡ all_rows entries values stride size column n m) again told)
    (cases_lt j half)
