-- What holds of each entry of the matrices, by tests that are computed over the tables.
use Rattle.std.proofs.Common.{◌≡◌, ℕ, ◌+◌, ◌*◌, ◌/◌, ◌%◌, ◌<◌, Bool, true, false, length, get_or, refl, subst, ◌∙◌}
use Rattle.std.proofs.Common.{zero-add, arith}
use Rattle.std.specs.List.{range_with_len, list_all}
use Rattle.std.specs.Ordering.{int_eq}
use Rattle.std.proofs.lemmas.List.Sums.{AllPass-from_list_all}
use Rattle.std.proofs.lemmas.List.FromFn.{length-range_with_len, get_or-range_with_len}
use Rattle.std.proofs.lemmas.Bool.Decides.{Decides-int_eq}
use Rattle.spec_transforms.specs.Matrices.{entry, cosine_entry, sine_entry}

-- a test of each number below n, once it was computed
pub tested : (p : ℕ → Bool) (n : ℕ) → list_all p (range_with_len 0 n) ≡ true → (k : ℕ) → k < n → p k ≡ true
tested p n computed k below =
    let all = AllPass-from_list_all p (range_with_len 0 n) computed in
    let at : get_or (range_with_len 0 n) k 0 ≡ k = get_or-range_with_len 0 n k 0 below ∙ zero-add k in
    let inside : k < length (range_with_len 0 n) = omega (arith, length-range_with_len 0 n) in
    subst (λ (i : ℕ). p i ≡ true) at (all k 0 inside)

cosine_test : ℕ → Bool
cosine_test i = int_eq (entry false 32 (i / 32) (i % 32)) (cosine_entry (i / 32) (i % 32))

cosines_all : list_all cosine_test (range_with_len 0 1024) ≡ true
unfolding cosine_test entry cosine_entry
cosines_all = refl

sine_test : ℕ → Bool
sine_test i = int_eq (entry true 4 (i / 4) (i % 4)) (sine_entry (i / 4) (i % 4))

sines_all : list_all sine_test (range_with_len 0 16) ≡ true
unfolding sine_test entry sine_entry
sines_all = refl

pub cosines_are : (k n : ℕ) → k < 32 → n < 32 → entry false 32 k n ≡ cosine_entry k n
unfolding cosine_test
cosines_are k n low small =
    let t : cosine_test (32 * k + n) ≡ true = tested cosine_test 1024 cosines_all (32 * k + n) (omega arith) in
    let d : (32 * k + n) / 32 ≡ k = omega arith in
    let m : (32 * k + n) % 32 ≡ n = omega arith in
    (Decides-int_eq _ _).0 (rw (d, m) at t)

pub sines_are : (k n : ℕ) → k < 4 → n < 4 → entry true 4 k n ≡ sine_entry k n
unfolding sine_test
sines_are k n low small =
    let t : sine_test (4 * k + n) ≡ true = tested sine_test 16 sines_all (4 * k + n) (omega arith) in
    let d : (4 * k + n) / 4 ≡ k = omega arith in
    let m : (4 * k + n) % 4 ≡ n = omega arith in
    (Decides-int_eq _ _).0 (rw (d, m) at t)
