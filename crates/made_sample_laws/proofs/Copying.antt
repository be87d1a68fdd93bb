-- Vectors of whole samples.
use Rattle.std.proofs.Common.{◌≡◌, ℕ, ◌+◌, ◌/◌, ◌<◌, ℤ, pos, ◌+ℤ◌, ◌*ℤ◌, refl}
use Rattle.std.proofs.Common.{arith}
use Rattle.std.specs.Int.{int_shr, int_rem_euclid}
use Rattle.std.proofs.lemmas.Int.{ints}
use Rattle.spec_inter_prediction.specs.Taps.{luma_taps, chroma_taps}
use Rattle.spec_inter_prediction.specs.Luma.{luma_sample, quarter, luma_first}
use Rattle.spec_inter_prediction.specs.Chroma.{chroma_sample, eighth, chroma_first}
use Rattle.spec_inter_prediction.specs.Weighting.{default_one, default_two, rounded_if_shifted}

no_quarter : (k : ℤ) → quarter (pos 4 *ℤ k) ≡ 0
unfolding quarter
no_quarter k =
    let e : int_rem_euclid (pos 4 *ℤ k) (pos 4) ≡ pos 0 = grind (arith, ints) in rw e refl

no_eighth : (k : ℤ) → eighth (pos 8 *ℤ k) ≡ 0
unfolding eighth
no_eighth k =
    let e : int_rem_euclid (pos 8 *ℤ k) (pos 8) ≡ pos 0 = grind (arith, ints) in rw e refl

whole_luma : (x : ℕ) (k : ℤ) → luma_first x (pos 4 *ℤ k) +ℤ pos 3 ≡ pos x +ℤ k
whole_luma x k = grind (arith, ints)

whole_chroma : (x : ℕ) (k : ℤ) → chroma_first x (pos 8 *ℤ k) +ℤ pos 1 ≡ pos x +ℤ k
whole_chroma x k = grind (arith, ints)

twice : (r : ℤ) → int_shr (pos 64 *ℤ int_shr (pos 64 *ℤ r) 0) 6 ≡ pos 64 *ℤ r
twice r = grind (arith, ints)

pub luma : (reference : ℤ → ℤ → ℕ) (across down : ℤ) (x y : ℕ)
    → luma_sample 8 reference (pos 4 *ℤ across) (pos 4 *ℤ down) x y
    ≡ pos 64 *ℤ pos (reference (pos x +ℤ across) (pos y +ℤ down))
unfolding luma_sample luma_taps
luma reference across down x y =
    rw (no_quarter across, no_quarter down, whole_luma x across, whole_luma y down)
    (twice (pos (reference (pos x +ℤ across) (pos y +ℤ down))))

pub chroma : (reference : ℤ → ℤ → ℕ) (across down : ℤ) (x y : ℕ)
    → chroma_sample 8 reference (pos 8 *ℤ across) (pos 8 *ℤ down) x y
    ≡ pos 64 *ℤ pos (reference (pos x +ℤ across) (pos y +ℤ down))
unfolding chroma_sample chroma_taps
chroma reference across down x y =
    rw (no_eighth across, no_eighth down, whole_chroma x across, whole_chroma y down)
    (twice (pos (reference (pos x +ℤ across) (pos y +ℤ down))))

pub one : (a : ℕ) → a < 256 → default_one 8 (pos 64 *ℤ pos a) ≡ a
unfolding default_one rounded_if_shifted
one a small = grind (arith, ints)

pub two : (a b : ℕ) → a < 256 → b < 256 → default_two 8 (pos 64 *ℤ pos a) (pos 64 *ℤ pos b) ≡ (a + b + 1) / 2
unfolding default_two rounded_if_shifted
two a b small_a small_b = grind (arith, ints)
