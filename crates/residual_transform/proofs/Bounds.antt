-- Bounds of products, of their sums and of what is made of them.
use Rattle.std.proofs.Common.{◌≡◌, ℕ, zero, suc, ◌+◌, ◌-◌, ◌*◌, ◌/◌, ◌%◌, ◌^◌, ◌<◌, ◌≤◌, ℤ, pos, negsuc, ◌≤ℤ◌, ◌*ℤ◌}
use Rattle.std.proofs.Common.{List, length, slice_index, refl, sym, ap, ◌∙◌, ⊎_elim, arith}
use Rattle.std.specs.Prelude.{nat_le}
use Rattle.std.specs.List.{All}
use Rattle.std.specs.Int.RustNames.{unsigned_abs}
use Rattle.std.specs.Int.Signed.{shr_z}
use Rattle.std.specs.Ordering.{int_eq}
use Rattle.std.proofs.lemmas.Int.{ints, unsigned_abs-mul, to_z-of_z, fits_signed_mul}
use Rattle.std.proofs.lemmas.Nat.{rows}
use Rattle.std.proofs.lemmas.Bool.{leb-true, cases_lt}
use Rattle.std.proofs.lemmas.Bool.Decides.{Decides-int_eq}
use mir.Val.{to_z, of_z, SFits}
use mir.Syntax.{w32}
use Rattle.std.proofs.Math.Nat.{mul-le-mul, mul-le-mul_right, pow-le-pow_right, div-le_of_le-mul}
use Rattle.spec_arithmetic.specs.Rounding.{rounded}
use Rattle.spec_arithmetic.specs.Sums.{int_sum_below}
use Rattle.spec_transforms.specs.declared.level_scale.TheConstants.{LEVEL_SCALE}
use Rattle.spec_transforms.specs.Matrices.{at, matrix_in}
use Rattle.spec_transforms.specs.Scaling.{Is16, clip16}
use Rattle.spec_transforms.specs.Transforms.{IsResidual}
use Rattle.spec_transforms.proofs.Entries.{tested}
use Rattle.spec_transforms.proofs.Sums.{IsWithin, sum_within}
use Rattle.residual_transform.specs.Sums.{IsEntry, IsHalfSum, IsMatrix, IsPartialSum, IsSum}

within : (z : ℤ) (n : ℕ) → unsigned_abs z ≤ n → IsWithin n z
within (pos z) n h = (omega (arith, ints), omega (arith, ints))
within (negsuc z) n h = (omega (arith, ints), omega (arith, ints))

pub product_within : (a b : ℤ) → IsEntry a → Is16 b → IsWithin 2949120 (a *ℤ b)
product_within a b entry small =
    let p : unsigned_abs a ≤ 90 = omega (arith, ints, entry) in
    let q : unsigned_abs b ≤ 32768 = omega (arith, ints, small) in
    within (a *ℤ b) 2949120 (rw (unsigned_abs-mul a b) (mul-le-mul p q))

-- the product as the code computes it, which loses nothing
pub product_is : (a b : ℤ) → IsEntry a → Is16 b
    → to_z w32 (of_z w32 (to_z w32 (of_z w32 a) *ℤ to_z w32 (of_z w32 b))) ≡ a *ℤ b
product_is a b entry small =
    let p : unsigned_abs a ≤ 90 = omega (arith, ints, entry) in
    let q : unsigned_abs b ≤ 32768 = omega (arith, ints, small) in
    let f : SFits w32 a = omega (arith, ints, entry) in
    let g : SFits w32 b = omega (arith, ints, small) in
    let m : SFits w32 (a *ℤ b) = fits_signed_mul w32 a b 90 32768 p q (omega arith) in
    simp to_z-of_z

-- the sum of the first n products down a column
pub column_within : (entries values : List ℤ) (stride size n j column : ℕ) → IsMatrix entries stride size →
    All Is16 values → size * size ≤ length values →
    n ≤ size → j < size → column < size
    → IsWithin (2949120 * n) (int_sum_below n (λ k. matrix_in entries stride k j *ℤ at values (size * k + column)))
column_within entries values stride size n j column matrix small long few inside beside =
    sum_within 2949120 n _ (λ k below.
    let k_in : k < size = omega arith in
    let e : stride * k + j < length entries = (let i = matrix.inside k k_in in omega arith) in
    let v : size * k + column < size * size = grind (arith, rows) in
    product_within _ _ (matrix.small (stride * k + j) (pos 0) e) (small (size * k + column) (pos 0) (omega arith)))

-- a value in every other row
pub every_other : (values : List ℤ) (size half first k column : ℕ) → All Is16 values → size * size ≤ length values →
    2 * half ≡ size → first < 2 → k < half → column < size → Is16 (at values (size * (2 * k + first) + column))
every_other values size half first k column small long halves one below beside =
    let k_in : 2 * k + first < size = omega arith in
    let v : size * (2 * k + first) + column < size * size = grind (arith, rows) in
    small (size * (2 * k + first) + column) (pos 0) (omega (arith, v, long))

-- and of the first n products of every other row
pub half_within : (entries values : List ℤ) (stride size half first n j column : ℕ) → IsMatrix entries stride size →
    All Is16 values → size * size ≤ length values →
    2 * half ≡ size → first < 2 → n ≤ half → j < half → column < size
    → IsWithin (2949120 * n)
    (int_sum_below n (λ k. matrix_in entries stride (2 * k + first) j *ℤ at values (size * (2 * k + first) + column)))
half_within entries values stride size half first n j column matrix small long halves one few inside beside =
    sum_within 2949120 n _ (λ k below.
    let k_in : 2 * k + first < size = omega arith in
    let e : stride * (2 * k + first) + j < length entries = (let i = matrix.inside
    (2 * k + first) k_in in omega arith) in
    product_within _ _ (matrix.small (stride * (2 * k + first) + j) (pos 0) e)
    (every_other values size half first k column small long halves one (omega arith) beside))

-- what such a sum is, of up to 16 products, of up to 31 and of up to 32
pub is_half_sum : (n : ℕ) (z sum : ℤ) → z ≡ sum → IsWithin (2949120 * n) sum → n ≤ 16 → IsHalfSum z
is_half_sum n z sum is small few = rw is (omega (arith, ints, small), omega (arith, ints, small))

pub is_partial_sum : (n size : ℕ) (z sum : ℤ) → z ≡ sum → IsWithin (2949120 * n) sum → n < size → size ≤ 32
    → IsPartialSum z
is_partial_sum n size z sum is small below few = rw is (omega (arith, ints, small), omega (arith, ints, small))

pub is_sum : (n : ℕ) (z sum : ℤ) → z ≡ sum → IsWithin (2949120 * n) sum → n ≤ 32 → IsSum z
is_sum n z sum is small few = rw is (omega (arith, ints, small), omega (arith, ints, small))

-- at least six places are shifted out
fewer_places : (a n : ℕ) → 64 ≤ n → a ≤ 94373888 → a / n ≤ 2097151
fewer_places a n places small =
    let m : 64 * 2097151 ≤ n * 2097151 = mul-le-mul_right 2097151 places in
    let l : a ≤ n * 2097151 = omega (arith, m) in
    div-le_of_le-mul n l

pub shift_within : (v : ℤ) (n : ℕ) → 64 ≤ n → negsuc 94373887 ≤ℤ v → v ≤ℤ pos 94373888 → IsResidual (shr_z v n)
shift_within (pos a) n places low high =
    let d = fewer_places a n places (omega (arith, ints)) in
    (omega (arith, ints, d), omega (arith, ints, d))
shift_within (negsuc a) n places low high =
    let d = fewer_places a n places (omega (arith, ints)) in
    (omega (arith, ints, d), omega (arith, ints, d))

pub quantizer_small : (qp factor : ℕ) → qp ≤ 87 → factor ≡ slice_index LEVEL_SCALE (qp % 6)
    → factor * 2 ^ (qp / 6) ≤ 1179648
quantizer_small qp factor h is =
    let s : slice_index LEVEL_SCALE (qp % 6) ≤ 72 =
    leb-true _ _ (tested (λ i. nat_le (slice_index LEVEL_SCALE i) 72) 6 refl (qp % 6) (omega arith)) in
    let few : qp / 6 ≤ 14 = omega arith in
    let two : 0 < 2 = omega arith in
    let p : 2 ^ (qp / 6) ≤ 2 ^ 14 = pow-le-pow_right two few in
    rw is (mul-le-mul s p)

zero_mul : (factor : ℕ) → pos 0 *ℤ pos factor ≡ pos 0
zero_mul factor = omega (arith, ints)

-- what scaling makes of a level of 0
zero_rounded : (shift : ℕ) → shift < 14 → clip16 (rounded (suc shift) (pos 0)) ≡ pos 0
zero_rounded shift h =
    (Decides-int_eq _ _).0 (tested (λ i. int_eq (clip16 (rounded (suc i) (pos 0))) (pos 0)) 14 refl shift h)

pub zero_scaled : (shift factor : ℕ) (level : ℤ) → level ≡ pos 0 → 1 ≤ shift → shift ≤ 14
    → pos 0 ≡ clip16 (rounded shift (level *ℤ pos factor))
zero_scaled zero factor level zero_level some few = absurd (omega (arith, some))
zero_scaled (suc shift) factor level zero_level some few =
    let none : level *ℤ pos factor ≡ pos 0 = rw zero_level (zero_mul factor) in
    sym (ap (λ (z : ℤ). clip16 (rounded (suc shift) z)) none ∙ zero_rounded shift (omega (arith, few)))

-- one more line of residuals behind those that were there
pub one_more_line : (size line : ℕ) (new old : List ℤ) → ((i : ℕ) → i < size * line → at new i ≡ at old i)
    → ((j : ℕ) → j < size → IsResidual (at new (size * line + j))) → ((i : ℕ) → i < size * line → IsResidual (at old i))
    → (i : ℕ) → i < size * (line + 1) → IsResidual (at new i)
one_more_line size line new old before here was i inside = ⊎_elim
    (λ below. rw (before i below) (was i below))
    (λ beyond.
    let e : size * line + (i - size * line) ≡ i = omega arith in
    let m : size * (line + 1) ≡ size * line + size = grind arith in
    rw e at (here (i - size * line) (omega (arith, m))))
    (cases_lt i (size * line))
