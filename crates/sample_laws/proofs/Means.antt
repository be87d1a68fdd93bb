-- Means of samples are no greater than the greatest of them.
use Rattle.std.proofs.Common.{◌≡◌, ℕ, zero, suc, ◌+◌, ◌*◌, ◌/◌, ◌<◌, ◌≤◌, ℤ, Bool, true, false, cond, List, length}
use Rattle.std.proofs.Common.{inl, inr, refl, ap, sym, subst, ◌∙◌, arith}
use Rattle.std.specs.Prelude.{map}
use Rattle.std.specs.List.{All, range_with_len}
use Rattle.std.proofs.Math.Nat.{add-mul, mul-le-mul_left, div-lt_iff_lt-mul, mul_comm}
use Rattle.std.proofs.lemmas.Bool.{cases_lt}
use Rattle.std.proofs.lemmas.Int.{ints, clamps}
use Rattle.std.proofs.lemmas.List.{get_or_past}
use Rattle.std.proofs.lemmas.List.FromFn.{get_or-map-range_with_len, length-map-range_with_len}
use Rattle.spec_arithmetic.specs.Clipping.{clip3_from_zero}
use Rattle.spec_arithmetic.specs.Sums.{sum_below}
use Rattle.spec_intra_prediction.specs.Neighbours.{at}

-- one of two by what is tested
pub case_holds : {X : Type 0} (P : X → Type 0) (b : Bool) (x y : X) → (b ≡ true → P x) → (b ≡ false → P y)
    → P (cond b x y)
case_holds P true x y first second = first refl
case_holds P false x y first second = second refl

pub case_most : (m : ℕ) (b : Bool) (v w : ℕ) → v ≤ m → w ≤ m → cond b v w ≤ m
case_most m true v w first second = first
case_most m false v w first second = second

-- a rounded mean of a sum of d numbers
pub mean_most : (m sum h d : ℕ) → sum ≤ d * m → h < d → (sum + h) / d ≤ m
mean_most m sum h d small less =
    let one : d * m ≡ m * d = mul_comm d m in
    let two : (m + 1) * d ≡ m * d + 1 * d = add-mul m 1 d in
    let below : sum + h < (m + 1) * d = omega (arith, one, two, small, less) in
    let least : 0 < d = omega (arith, less) in
    let under : (sum + h) / d < m + 1 = (div-lt_iff_lt-mul least).1 below in
    omega (arith, under)

pub shares : (u v d m : ℕ) → u + v ≡ d → u * m + v * m ≡ d * m
shares u v d m whole = sym (add-mul u v m) ∙ ap (λ k. k * m) whole

-- of two by their weights
pub weighted_most : (m u v d a b h : ℕ) → a ≤ m → b ≤ m → u + v ≡ d → h < d → (u * a + v * b + h) / d ≤ m
weighted_most m u v d a b h first second whole less =
    let one : u * a ≤ u * m = mul-le-mul_left u first in
    let two : v * b ≤ v * m = mul-le-mul_left v second in
    let three = shares u v d m whole in
    mean_most m (u * a + v * b) h d (omega (arith, one, two, three)) less

pub sum_most : (m n : ℕ) (f : ℕ → ℕ) → ((k : ℕ) → f k ≤ m) → sum_below n f ≤ n * m
sum_most m zero f small = omega arith
sum_most m (suc n) f small =
    let whole : n + 1 ≡ suc n = omega arith in
    let more : n * m + 1 * m ≡ suc n * m = shares n 1 (suc n) m whole in
    omega (arith, more, small n, sum_most m n f small)

-- what is clipped to a greatest number
pub clip_most : (m : ℕ) (v : ℤ) → clip3_from_zero m v ≤ m
clip_most m v = omega (arith, ints, clamps)

-- samples up to a greatest one
abbrev pub AreMost : ℕ → List ℕ → Type 0
AreMost m p = (k : ℕ) → at p k ≤ m

pub element_most : (m : ℕ) (p : List ℕ) → All (λ v. v ≤ m) p → AreMost m p
element_most m p each k = elim (cases_lt k (length p)) [
  | inl inside ↦ each k 0 inside
  | inr past ↦ let none : 0 ≤ m = omega arith in subst (λ v. v ≤ m) (sym (get_or_past p k 0 past)) none
]

pub map_most : (m n : ℕ) (f : ℕ → ℕ) → ((k : ℕ) → k < n → f k ≤ m) → AreMost m (map f (range_with_len 0 n))
map_most m n f small k = elim (cases_lt k n) [
  | inl inside ↦ subst (λ v. v ≤ m) (sym (get_or-map-range_with_len f 0 n k k 0 inside (omega arith))) (small k inside)
  | inr past ↦ let none : 0 ≤ m = omega arith in
      subst (λ v. v ≤ m)
      (sym (get_or_past (map f (range_with_len 0 n)) k 0 (omega (arith, past, length-map-range_with_len f 0 n)))) none
]
