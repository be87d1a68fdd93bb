-- Samples of 8 bits by default weights, over what is held of predictions.
use Rattle.std.proofs.Common.{◌≡◌, ℕ, ◌+◌, ◌-◌, ◌*◌, ◌/◌, ◌%◌, min, ℤ, pos, negsuc, ◌+ℤ◌, ◌-ℤ◌, arith}
use Rattle.std.proofs.lemmas.Int.{ints, clamps}
use Rattle.std.specs.Int.{int_shr}
use Rattle.spec_arithmetic.specs.Clipping.{clip1}
use Rattle.spec_inter_prediction.specs.Weighting.{rounded_if_shifted, default_one, default_two}
use Rattle.inter_pred.specs.Passes.{value_of}

clipped : (n : ℕ) (v : ℤ) → pos n ≡ pos 16864 +ℤ v → min ((n - 16864) / 64) 255 ≡ clip1 8 (int_shr v 6)
clipped n (pos m) e = omega (arith, ints, clamps, e)
clipped n (negsuc m) e = omega (arith, ints, clamps, e)

pub one_is : (p : ℕ) → min ((p - 16864) / 64) 255 ≡ default_one 8 (value_of p)
unfolding default_one rounded_if_shifted
one_is p = clipped p (pos p -ℤ pos 16896 +ℤ pos 32) (omega (arith, ints))

clipped_half : (n h : ℕ) (v : ℤ) → pos n ≡ pos 33728 +ℤ v → h ≡ n / 2
    → min ((h - 16864) / 64) 255 ≡ clip1 8 (int_shr v 7)
clipped_half n h (pos m) e f = omega (arith, ints, clamps, e, f)
clipped_half n h (negsuc m) e f = omega (arith, ints, clamps, e, f)

pub two_is : (p q : ℕ)
    → min ((p / 2 + q / 2 + (p % 2 + q % 2) / 2 - 16864) / 64) 255 ≡ default_two 8 (value_of p) (value_of q)
unfolding default_two rounded_if_shifted
two_is p q =
    clipped_half (p + q) (p / 2 + q / 2 + (p % 2 + q % 2) / 2)
    (pos p -ℤ pos 16896 +ℤ (pos q -ℤ pos 16896) +ℤ pos 64) (omega (arith, ints)) (omega arith)

pub held_back : (s : ℕ) → min s 255 ≡ default_one 8 (pos (64 * s))
unfolding default_one rounded_if_shifted
held_back s = omega (arith, ints, clamps)
