-- The tables of the transforms as matrices of a size.
use Rattle.std.proofs.Common.{◌≡◌, ℕ, zero, suc, ◌+◌, ◌-◌, ◌*◌, ◌/◌, ◌%◌, ◌^◌, ◌<◌, ◌≤◌, ℤ, pos, negsuc, neg_ℤ, List}
use Rattle.std.proofs.Common.{get_or}
use Rattle.std.proofs.Common.{Bool, true}
use Rattle.std.proofs.Common.{refl, ap, ◌∙◌, arith}
use Rattle.std.specs.List.{All, list_all, range_with_len}
use Rattle.std.specs.Int.Signed.{le_z, le_z_yes}
use Rattle.std.specs.Ordering.{int_eq}
use Rattle.std.proofs.lemmas.Nat.{rows, div-mul-add, mod-mul-add}
use Rattle.std.proofs.lemmas.Bool.Decides.{Decides-int_eq}
use Rattle.std.proofs.lemmas.Float.{T_from_true}
use Rattle.std.proofs.lemmas.List.Elements.{All-from_get_or}
use Rattle.spec_transforms.specs.declared.matrices.TheConstants.{COSINE_MATRIX}
use Rattle.spec_transforms.specs.Matrices.{Matrix, matrix_in, entry}
use Rattle.spec_transforms.specs.Transforms.{block_in, first_stage, second_stage, residual_of, transformed}
use Rattle.spec_transforms.proofs.Entries.{tested}
use Rattle.residual_transform.specs.Sums.{IsEntry, IsMatrix}

low_all : list_all (λ i. le_z (negsuc 89) (get_or COSINE_MATRIX i (pos 0))) (range_with_len 0 1024) ≡ true
low_all = refl

high_all : list_all (λ i. le_z (get_or COSINE_MATRIX i (pos 0)) (pos 90)) (range_with_len 0 1024) ≡ true
high_all = refl

cosines_small : All IsEntry COSINE_MATRIX
cosines_small = All-from_get_or IsEntry COSINE_MATRIX (pos 0) (λ i h. (
  le_z_yes (T_from_true _ (tested (λ i. le_z (negsuc 89) (get_or COSINE_MATRIX i (pos 0))) 1024 low_all i h)),
  le_z_yes (T_from_true _ (tested (λ i. le_z (get_or COSINE_MATRIX i (pos 0)) (pos 90)) 1024 high_all i h)),
))

-- what a test of each column and every other row of a size tells, by its number
even_test : ℕ → ℕ → ℕ → Bool
even_test stride size i = int_eq (matrix_in COSINE_MATRIX stride (2 * (i / size)) (size - 1 - i % size))
    (matrix_in COSINE_MATRIX stride (2 * (i / size)) (i % size))

odd_test : ℕ → ℕ → ℕ → Bool
odd_test stride size i = int_eq (matrix_in COSINE_MATRIX stride (2 * (i / size) + 1) (size - 1 - i % size))
    (neg_ℤ (matrix_in COSINE_MATRIX stride (2 * (i / size) + 1) (i % size)))

-- the tests of a size, of half as many numbers as it has entries
record AreMirrored (stride size half : ℕ) : Type 0 where
  even : list_all (even_test stride size) (range_with_len 0 (half * size)) ≡ true
  odd : list_all (odd_test stride size) (range_with_len 0 (half * size)) ≡ true

mirrored_8 : AreMirrored 128 8 4
unfolding even_test odd_test
mirrored_8 = record { even = refl; odd = refl }

mirrored_16 : AreMirrored 64 16 8
unfolding even_test odd_test
mirrored_16 = record { even = refl; odd = refl }

mirrored_32 : AreMirrored 32 32 16
unfolding even_test odd_test
mirrored_32 = record { even = refl; odd = refl }

even_rows : (stride size half k j : ℕ) → AreMirrored stride size half → size ≡ 2 * half → 2 * k < size → j < size
    → matrix_in COSINE_MATRIX stride (2 * k) (size - 1 - j) ≡ matrix_in COSINE_MATRIX stride (2 * k) j
unfolding even_test
even_rows stride size half k j all halves low inside =
    let place : k * size + j < half * size = (let b : k < half = omega (arith, halves, low) in grind (arith, rows)) in
    let t : even_test stride size (k * size + j) ≡ true =
    tested (even_test stride size) (half * size) all.even (k * size + j) place in
    let d : (k * size + j) / size ≡ k = div-mul-add k size j inside in
    let m : (k * size + j) % size ≡ j = mod-mul-add k size j inside in
    (Decides-int_eq _ _).0 (rw (d, m) at t)

odd_rows : (stride size half k j : ℕ) → AreMirrored stride size half → size ≡ 2 * half → 2 * k + 1 < size → j < size
    → matrix_in COSINE_MATRIX stride (2 * k + 1) (size - 1 - j) ≡ neg_ℤ (matrix_in COSINE_MATRIX stride (2 * k + 1) j)
unfolding odd_test
odd_rows stride size half k j all halves low inside =
    let place : k * size + j < half * size = (let b : k < half = omega (arith, halves, low) in grind (arith, rows)) in
    let t : odd_test stride size (k * size + j) ≡ true =
    tested (odd_test stride size) (half * size) all.odd (k * size + j) place in
    let d : (k * size + j) / size ≡ k = div-mul-add k size j inside in
    let m : (k * size + j) % size ≡ j = mod-mul-add k size j inside in
    (Decides-int_eq _ _).0 (rw (d, m) at t)

-- the cosines of 4 columns, whose symmetry is not asked for
few_cosines : IsMatrix COSINE_MATRIX 256 4
few_cosines = record {
  some = omega arith;
  few = omega arith;
  inside = λ k h. omega arith;
  small = cosines_small;
  even = λ large. absurd (omega (arith, large));
  odd = λ large. absurd (omega (arith, large));
}

cosines : (stride size half : ℕ) → AreMirrored stride size half → size ≡ 2 * half → 0 < size → size ≤ 32
    → ((k : ℕ) → k < size → stride * k + size ≤ 1024)
    → IsMatrix COSINE_MATRIX stride size
cosines stride size half mirrored halves some few inside = record {
  some = some;
  few = few;
  inside = inside;
  small = cosines_small;
  even = λ large k j. even_rows stride size half k j mirrored halves;
  odd = λ large k j. odd_rows stride size half k j mirrored halves;
}

pub cosines_of_size : (log2 size : ℕ) → size ≡ 2 ^ log2 → 2 ≤ log2 → log2 ≤ 5
    → IsMatrix COSINE_MATRIX (32 * (32 / size)) size
cosines_of_size zero size is low high = absurd (omega (arith, low))
cosines_of_size (suc zero) size is low high = absurd (omega (arith, low))
cosines_of_size (suc (suc zero)) size is low high = rw is few_cosines
cosines_of_size (suc (suc (suc zero))) size is low high =
    rw is (cosines 128 8 4 mirrored_8 refl (omega arith) (omega arith) (λ k h. omega arith))
cosines_of_size (suc (suc (suc (suc zero)))) size is low high =
    rw is (cosines 64 16 8 mirrored_16 refl (omega arith) (omega arith) (λ k h. omega arith))
cosines_of_size (suc (suc (suc (suc (suc zero))))) size is low high =
    rw is (cosines 32 32 16 mirrored_32 refl (omega arith) (omega arith) (λ k h. omega arith))
cosines_of_size (suc (suc (suc (suc (suc (suc more)))))) size is low high = absurd (omega (arith, high))

-- what the two products give is the definition's
pub by_matrix : (depth size n : ℕ) (dst : Bool) (entries : List ℤ) (stride : ℕ) (new d : List ℤ)
    → matrix_in entries stride ≡ entry dst size → size ≡ n
    → ((x y : ℕ) → x < size → y < size
    → block_in size new x y
    ≡ residual_of depth
    (second_stage (matrix_in entries stride) size (first_stage (matrix_in entries stride) size (block_in size d)) x y))
    → (x y : ℕ) → x < n → y < n → block_in n new x y ≡ transformed depth dst n (block_in n d) x y
unfolding transformed
by_matrix depth size n dst entries stride new d is e product x y inside below =
    rw (← e) (product x y (omega (arith, e)) (omega (arith, e))
    ∙ ap (λ (m : Matrix). residual_of depth (second_stage m size (first_stage m size (block_in size d)) x y)) is)
