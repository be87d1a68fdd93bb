-- Sums whose last terms are 0, and the stages of a block whose last rows and columns are.
use Rattle.std.proofs.Common.{◌≡◌, ℕ, zero, suc, ◌+◌, ◌-◌, ◌*◌, ◌<◌, ◌≤◌, ℤ, pos, ◌*ℤ◌, List, ⊎_elim}
use Rattle.std.proofs.Common.{refl, sym, ap, ◌∙◌, arith}
use Rattle.std.proofs.lemmas.Int.{ints}
use Rattle.std.proofs.lemmas.Nat.{rows}
use Rattle.std.proofs.lemmas.Bool.{cases_lt}
use Rattle.std.proofs.Math.Nat.{mul-le-mul_left}
use Rattle.std.proofs.Math.IntN.{*ℤ-zero}
use Rattle.spec_arithmetic.specs.Rounding.{rounded}
use Rattle.spec_arithmetic.specs.Sums.{int_sum_below}
use Rattle.spec_transforms.specs.Matrices.{Matrix, at}
use Rattle.spec_transforms.specs.Scaling.{clip16}
use Rattle.spec_transforms.specs.Transforms.{block_in, first_stage, second_stage}
use Rattle.spec_transforms.proofs.Sums.{sum_same}

zeros : (n : ℕ) (f : ℕ → ℤ) → ((k : ℕ) → k < n → f k ≡ pos 0) → int_sum_below n f ≡ pos 0
zeros zero f none = refl
zeros (suc n) f none =
    let below : int_sum_below n f ≡ pos 0 = zeros n f (λ k h. none k (omega arith)) in
    let last : f n ≡ pos 0 = none n (omega arith) in
    rw (below, last) refl

-- the terms from n on add nothing
fewer : (n size : ℕ) (f : ℕ → ℤ) → n ≤ size → ((k : ℕ) → n ≤ k → k < size → f k ≡ pos 0)
    → int_sum_below size f ≡ int_sum_below n f
fewer n zero f few none = let e : n ≡ 0 = omega (arith, few) in rw e refl
fewer n (suc size) f few none = ⊎_elim
    (λ less.
    let below : int_sum_below size f ≡ int_sum_below n f =
    fewer n size f (omega (arith, less)) (λ k low h. none k low (omega arith)) in
    let last : f size ≡ pos 0 = none size (omega (arith, less)) (omega arith) in
    omega (arith, ints, below, last))
    (λ all. let e : n ≡ suc size = omega (arith, few, all) in rw e refl)
    (cases_lt n (suc size))

-- a column of the first stage, by the rows that have coefficients
first_fewer : (matrix : Matrix) (size rows : ℕ) (d : List ℤ) (x y : ℕ) → rows ≤ size
    → ((i : ℕ) → size * rows ≤ i → at d i ≡ pos 0)
    → first_stage matrix size (block_in size d) x y
    ≡ clip16 (rounded 7 (int_sum_below rows (λ k. matrix k y *ℤ at d (size * k + x))))
unfolding first_stage
first_fewer matrix size rows d x y few empty =
    ap (λ (z : ℤ). clip16 (rounded 7 z)) (fewer rows size _ few (λ k low h.
    let m : size * rows ≤ size * k = mul-le-mul_left size low in
    let none : at d (size * k + x) ≡ pos 0 = empty _ (omega (arith, m)) in
    rw none (*ℤ-zero (matrix k y))))

-- a column of the first stage that has no coefficient
first_zero : (matrix : Matrix) (size rows : ℕ) (d : List ℤ) (x y : ℕ)
    → ((k : ℕ) → k < rows → at d (size * k + x) ≡ pos 0)
    → clip16 (rounded 7 (int_sum_below rows (λ k. matrix k y *ℤ at d (size * k + x)))) ≡ pos 0
first_zero matrix size rows d x y empty =
    ap (λ (z : ℤ). clip16 (rounded 7 z)) (zeros rows _ (λ k h. rw (empty k h) (*ℤ-zero (matrix k y))))

-- both stages, by the rows and the columns that have coefficients
pub both_fewer : (matrix : Matrix) (size rows columns : ℕ) (d g : List ℤ) (x y : ℕ) → rows ≤ size → columns ≤ size
    → y < size
    → ((i : ℕ) → size * rows ≤ i → at d i ≡ pos 0)
    → ((x y : ℕ) → columns ≤ x → x < size → y < rows → at d (size * y + x) ≡ pos 0)
    → ((x y : ℕ) → x < columns → y < size
    → block_in size g y x ≡ clip16 (rounded 7 (int_sum_below rows (λ k. matrix k y *ℤ at d (size * k + x)))))
    → int_sum_below columns (λ k. matrix k x *ℤ block_in size g y k)
    ≡ second_stage matrix size (first_stage matrix size (block_in size d)) x y
unfolding second_stage
both_fewer matrix size rows columns d g x y few_rows few_columns below empty beside stored =
    sum_same columns _ _ (λ k h. ap (λ (z : ℤ). matrix k x *ℤ z)
    (stored k y h below ∙ sym (first_fewer matrix size rows d k y few_rows empty)))
    ∙ sym (fewer columns size _ few_columns (λ k low h.
    let none : first_stage matrix size (block_in size d) k y ≡ pos 0 =
    first_fewer matrix size rows d k y few_rows empty
    ∙ first_zero matrix size rows d k y (λ j l. beside k j low h l) in
    rw none (*ℤ-zero (matrix k x))))

-- one more row that has no coefficient, from the last one up
pub one_row_fewer : (size k : ℕ) (d : List ℤ) → k < size → ((i : ℕ) → size * (size - k) ≤ i → at d i ≡ pos 0)
    → ((j : ℕ) → j < size → at d (size * (size - 1 - k) + j) ≡ pos 0)
    → (i : ℕ) → size * (size - (k + 1)) ≤ i → at d i ≡ pos 0
one_row_fewer size k d inside below here i low = ⊎_elim
    (λ before.
    let e : size - k ≡ (size - (k + 1)) + 1 = omega (arith, inside) in
    let m : size * ((size - (k + 1)) + 1) ≡ size * (size - (k + 1)) + size = grind arith in
    let f : size - 1 - k ≡ size - (k + 1) = omega arith in
    let g : size * (size - (k + 1)) + (i - size * (size - (k + 1))) ≡ i = omega (arith, low) in
    let b : i < size * ((size - (k + 1)) + 1) = rw e at before in
    rw (f, g) at (here (i - size * (size - (k + 1))) (omega (arith, b, m, low))))
    (λ behind. below i behind)
    (cases_lt i (size * (size - k)))

-- both stages, by all rows and columns
pub all_rows : (matrix : Matrix) (size : ℕ) (d g : List ℤ) (x y : ℕ) → y < size
    → ((x y : ℕ) → x < size → y < size
    → block_in size g y x ≡ clip16 (rounded 7 (int_sum_below size (λ k. matrix k y *ℤ at d (size * k + x)))))
    → int_sum_below size (λ k. matrix k x *ℤ block_in size g y k)
    ≡ second_stage matrix size (first_stage matrix size (block_in size d)) x y
unfolding first_stage second_stage
all_rows matrix size d g x y below stored =
    sum_same size _ _ (λ k h. ap (λ (z : ℤ). matrix k x *ℤ z) (stored k y h below))
