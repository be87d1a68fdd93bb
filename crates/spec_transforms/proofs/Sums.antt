-- Sums of as many terms as there are numbers below n.
use Rattle.std.proofs.Common.{◌≡◌, ℕ, zero, suc, ◌+◌, ◌*◌, ◌<◌, ℤ, pos, neg_ℤ, ◌≤ℤ◌, ◌+ℤ◌, ◌*ℤ◌, Bool, refl, ap}
use Rattle.std.proofs.Common.{arith}
use Rattle.std.proofs.Common.{add-one}
use Rattle.std.proofs.lemmas.Int.{ints}
use Rattle.spec_arithmetic.specs.Rounding.{rounded}
use Rattle.spec_arithmetic.specs.Sums.{int_sum_below}
use Rattle.spec_transforms.specs.Matrices.{Matrix}
use Rattle.spec_transforms.specs.Scaling.{clip16}
use Rattle.spec_transforms.specs.Transforms.{Block, first_stage, second_stage, residual_of, transformed}

pub sum_more : (n : ℕ) (f : ℕ → ℤ) → int_sum_below (n + 1) f ≡ int_sum_below n f +ℤ f n
sum_more n f = rw add-one refl

pub sum_same : (n : ℕ) (f g : ℕ → ℤ) → ((k : ℕ) → k < n → f k ≡ g k) → int_sum_below n f ≡ int_sum_below n g
sum_same zero f g same = refl
sum_same (suc n) f g same =
    let below : int_sum_below n f ≡ int_sum_below n g = sum_same n f g (λ k l. same k (omega arith)) in
    let last : f n ≡ g n = same n (omega arith) in
    cc

-- a number that is at most so far from 0
abbrev pub IsWithin : ℕ → ℤ → Type 0
IsWithin b v = (neg_ℤ (pos b) ≤ℤ v) × (v ≤ℤ pos b)

pub sum_within : (b n : ℕ) (f : ℕ → ℤ) → ((k : ℕ) → k < n → IsWithin b (f k)) → IsWithin (b * n) (int_sum_below n f)
sum_within b zero f each = (omega (arith, ints), omega (arith, ints))
sum_within b (suc n) f each =
    let below = sum_within b n f (λ k l. each k (omega arith)) in
    let last = each n (omega arith) in
    let e : b * suc n ≡ b * n + b = omega arith in
    (omega (arith, ints, below, last, e), omega (arith, ints, below, last, e))

-- what a stage gives depends on the values of its block alone
pub first_same : (matrix : Matrix) (size : ℕ) (d e : Block) (x y : ℕ) → ((k : ℕ) → k < size → d x k ≡ e x k)
    → first_stage matrix size d x y ≡ first_stage matrix size e x y
unfolding first_stage
first_same matrix size d e x y same =
    ap (λ (z : ℤ). clip16 (rounded 7 z)) (sum_same size _ _ (λ k h. ap (λ (z : ℤ). matrix k y *ℤ z) (same k h)))

pub second_same : (matrix : Matrix) (size : ℕ) (g h : Block) (x y : ℕ) → ((k : ℕ) → k < size → g k y ≡ h k y)
    → second_stage matrix size g x y ≡ second_stage matrix size h x y
unfolding second_stage
second_same matrix size g h x y same = sum_same size _ _ (λ k l. ap (λ (z : ℤ). matrix k x *ℤ z) (same k l))

-- and so do residuals
pub transformed_same : (depth : ℕ) (sines : Bool) (size : ℕ) (d e : Block)
    → ((x y : ℕ) → x < size → y < size → d x y ≡ e x y)
    → (x y : ℕ) → transformed depth sines size d x y ≡ transformed depth sines size e x y
unfolding transformed
transformed_same depth sines size d e same x y =
    ap (λ (z : ℤ). residual_of depth z)
    (second_same _ size _ _ x y (λ k h. first_same _ size d e k y (λ j l. same k j h l)))
