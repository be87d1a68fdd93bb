-- What the tables of angles say, compared with their rule by tests over all of them.
use Rattle.std.proofs.Common.{◌≡◌, ℕ, ◌+◌, ◌-◌, ◌<◌, ◌≤◌, ℤ, pos, negsuc, ◌≤ℤ◌, ◌<ℤ◌, ◌*◌, neg_ℤ, Bool, true, length}
use Rattle.std.proofs.Common.{get_or, refl, subst, ◌∙◌, zero-add, arith}
use Rattle.std.specs.Prelude.{nat_le, nat_eq}
use Rattle.std.specs.List.{list_all, range_with_len}
use Rattle.std.specs.Ordering.{int_eq}
use Rattle.std.specs.Int.RustNames.{unsigned_abs}
use Rattle.std.proofs.lemmas.Int.{ints}
use Rattle.std.specs.Int.Signed.{le_z, le_z_yes}
use Rattle.std.proofs.lemmas.Float.{T_from_true}
use Rattle.std.proofs.lemmas.Bool.{leb-true, eqb-true}
use Rattle.std.proofs.lemmas.Bool.Decides.{Decides-int_eq}
use Rattle.std.proofs.lemmas.List.Sums.{AllPass-from_list_all}
use Rattle.std.proofs.lemmas.List.FromFn.{length-range_with_len, get_or-range_with_len}
use Rattle.spec_intra_prediction.specs.declared.angles.TheConstants.{INTRA_PRED_ANGLE, INVERSE_ANGLE}
use Rattle.spec_intra_prediction.specs.Angular.{angle, inverse_angle}
use Rattle.spec_intra_prediction.specs.AngleRule.{angle_step, rounded_inverse}

-- a test of each number below n, once it was computed
tested : (p : ℕ → Bool) (n : ℕ) → list_all p (range_with_len 0 n) ≡ true → (k : ℕ) → k < n → p k ≡ true
tested p n computed k below =
    let all = AllPass-from_list_all p (range_with_len 0 n) computed in
    let at : get_or (range_with_len 0 n) k 0 ≡ k = get_or-range_with_len 0 n k 0 below ∙ zero-add k in
    let inside : k < length (range_with_len 0 n) = omega (arith, length-range_with_len 0 n) in
    subst (λ (i : ℕ). p i ≡ true) at (all k 0 inside)

apart : (i : ℕ) (z : ℤ) → z <ℤ pos 0 → (i < 9 → pos 0 ≤ℤ z) → (23 < i → pos 0 ≤ℤ z) → (9 ≤ i) × (i ≤ 23)
apart i z neg low high = (grind (arith, ints), grind (arith, ints))

least_all : list_all (λ i. le_z (negsuc 31) (get_or INTRA_PRED_ANGLE i (pos 0))) (range_with_len 0 33) ≡ true
least_all = refl

pub angle_least : (i : ℕ) → i < 33 → negsuc 31 ≤ℤ get_or INTRA_PRED_ANGLE i (pos 0)
angle_least i h =
    le_z_yes (T_from_true _ (tested (λ i. le_z (negsuc 31) (get_or INTRA_PRED_ANGLE i (pos 0))) 33 least_all i h))

greatest_all : list_all (λ i. le_z (get_or INTRA_PRED_ANGLE i (pos 0)) (pos 32)) (range_with_len 0 33) ≡ true
greatest_all = refl

pub angle_greatest : (i : ℕ) → i < 33 → get_or INTRA_PRED_ANGLE i (pos 0) ≤ℤ pos 32
angle_greatest i h =
    le_z_yes (T_from_true _ (tested (λ i. le_z (get_or INTRA_PRED_ANGLE i (pos 0)) (pos 32)) 33 greatest_all i h))

inverse_all : list_all (λ i. nat_le (get_or INVERSE_ANGLE i 0) 4096) (range_with_len 0 15) ≡ true
inverse_all = refl

pub inverse_greatest : (i : ℕ) → i < 15 → get_or INVERSE_ANGLE i 0 ≤ 4096
inverse_greatest i h = leb-true _ _ (tested (λ i. nat_le (get_or INVERSE_ANGLE i 0) 4096) 15 inverse_all i h)

-- negative are the modes 11 to 25 alone
low_all : list_all (λ i. le_z (pos 0) (get_or INTRA_PRED_ANGLE i (pos 0))) (range_with_len 0 9) ≡ true
low_all = refl

high_all : list_all (λ i. le_z (pos 0) (get_or INTRA_PRED_ANGLE (24 + i) (pos 0))) (range_with_len 0 9) ≡ true
high_all = refl

pub negative_between : (i : ℕ) → i < 33 → get_or INTRA_PRED_ANGLE i (pos 0) <ℤ pos 0 → (9 ≤ i) × (i ≤ 23)
negative_between i h neg =
    let low : i < 9 → pos 0 ≤ℤ get_or INTRA_PRED_ANGLE i (pos 0) =
    λ k. le_z_yes (T_from_true _ (tested (λ i. le_z (pos 0) (get_or INTRA_PRED_ANGLE i (pos 0))) 9 low_all i k)) in
    let high : 23 < i → pos 0 ≤ℤ get_or INTRA_PRED_ANGLE i (pos 0) =
    λ k. let e : 24 + (i - 24) ≡ i = omega arith in
    subst (λ (j : ℕ). pos 0 ≤ℤ get_or INTRA_PRED_ANGLE j (pos 0)) e
    (le_z_yes (T_from_true _
    (tested (λ i. le_z (pos 0) (get_or INTRA_PRED_ANGLE (24 + i) (pos 0))) 9 high_all (i - 24) (omega arith)))) in
    apart i (get_or INTRA_PRED_ANGLE i (pos 0)) neg low high

product_all : list_all
    (λ i. nat_le (unsigned_abs (get_or INTRA_PRED_ANGLE (9 + i) (pos 0)) * get_or INVERSE_ANGLE i 0) 8208)
    (range_with_len 0 15)
    ≡ true
product_all = refl

pub product_greatest : (i : ℕ) → i < 15
    → unsigned_abs (get_or INTRA_PRED_ANGLE (9 + i) (pos 0)) * get_or INVERSE_ANGLE i 0 ≤ 8208
product_greatest i h =
    leb-true _ _
    (tested (λ i. nat_le (unsigned_abs (get_or INTRA_PRED_ANGLE (9 + i) (pos 0)) * get_or INVERSE_ANGLE i 0) 8208)
    15 product_all i h)

below_test : ℕ → Bool
below_test d = int_eq (angle (10 - d)) (pos (angle_step d))

pub below : (d : ℕ) → d ≤ 8 → angle (10 - d) ≡ pos (angle_step d)
unfolding below_test angle angle_step
below d h = (Decides-int_eq _ _).0 (tested below_test 9 refl d (omega arith))

towards_test : ℕ → Bool
towards_test d = int_eq (angle (10 + d)) (neg_ℤ (pos (angle_step d)))

pub towards : (d : ℕ) → d ≤ 8 → angle (10 + d) ≡ neg_ℤ (pos (angle_step d))
unfolding towards_test angle angle_step
towards d h = (Decides-int_eq _ _).0 (tested towards_test 9 refl d (omega arith))

away_test : ℕ → Bool
away_test d = int_eq (angle (26 - d)) (neg_ℤ (pos (angle_step d)))

pub away : (d : ℕ) → d ≤ 8 → angle (26 - d) ≡ neg_ℤ (pos (angle_step d))
unfolding away_test angle angle_step
away d h = (Decides-int_eq _ _).0 (tested away_test 9 refl d (omega arith))

right_test : ℕ → Bool
right_test d = int_eq (angle (26 + d)) (pos (angle_step d))

pub right : (d : ℕ) → d ≤ 8 → angle (26 + d) ≡ pos (angle_step d)
unfolding right_test angle angle_step
right d h = (Decides-int_eq _ _).0 (tested right_test 9 refl d (omega arith))

horizontal_test : ℕ → Bool
horizontal_test d = nat_eq (inverse_angle (11 + d)) (rounded_inverse (angle_step (d + 1)))

pub horizontal : (d : ℕ) → 0 < d → d ≤ 8 → inverse_angle (10 + d) ≡ rounded_inverse (angle_step d)
unfolding horizontal_test inverse_angle rounded_inverse angle_step
horizontal d some few =
    let e : 11 + (d - 1) ≡ 10 + d = omega arith in
    let f : d - 1 + 1 ≡ d = omega arith in
    let t : horizontal_test (d - 1) ≡ true = tested horizontal_test 8 refl (d - 1) (omega arith) in
    rw (e, f) at (eqb-true _ _ t)

vertical_test : ℕ → Bool
vertical_test d = nat_eq (inverse_angle (25 - d)) (rounded_inverse (angle_step (d + 1)))

pub vertical : (d : ℕ) → 0 < d → d ≤ 8 → inverse_angle (26 - d) ≡ rounded_inverse (angle_step d)
unfolding vertical_test inverse_angle rounded_inverse angle_step
vertical d some few =
    let e : 25 - (d - 1) ≡ 26 - d = omega arith in
    let f : d - 1 + 1 ≡ d = omega arith in
    let t : vertical_test (d - 1) ≡ true = tested vertical_test 8 refl (d - 1) (omega arith) in
    rw (e, f) at (eqb-true _ _ t)
