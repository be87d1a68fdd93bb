-- Weights of 1 at 8 bits, which weight as default ones do.
use Rattle.std.proofs.Common.{◌≡◌, ◌∙◌, ap, ℕ, zero, suc, ◌+◌, ◌-◌, ◌^◌, ◌≤◌, ℤ, pos, negsuc, ◌+ℤ◌, ◌*ℤ◌, arith}
use Rattle.std.proofs.lemmas.Int.{ints}
use Rattle.std.proofs.lemmas.Bool.Decides.{nat_tests}
use Rattle.std.specs.Int.{int_shr}
use Rattle.spec_arithmetic.specs.Clipping.{clip1}
use Rattle.spec_inter_prediction.specs.declared.weighting.Weight.{Weight}
use Rattle.spec_inter_prediction.specs.Weighting.{rounded_if_shifted, default_one, default_two, explicit_one}
use Rattle.spec_inter_prediction.specs.Weighting.{explicit_two}

-- a multiple of a power of 2, in units that are as many times as large
shifted_6 : (d : ℕ) → d ≤ 7 → (u v : ℤ) → u ≡ v *ℤ pos (2 ^ d) → int_shr u (d + 6) ≡ int_shr v 6
shifted_6 zero few u (pos n) e = rw e (grind (arith, ints))
shifted_6 (suc zero) few u (pos n) e = rw e (grind (arith, ints))
shifted_6 (suc (suc zero)) few u (pos n) e = rw e (grind (arith, ints))
shifted_6 (suc (suc (suc zero))) few u (pos n) e = rw e (grind (arith, ints))
shifted_6 (suc (suc (suc (suc zero)))) few u (pos n) e = rw e (grind (arith, ints))
shifted_6 (suc (suc (suc (suc (suc zero))))) few u (pos n) e = rw e (grind (arith, ints))
shifted_6 (suc (suc (suc (suc (suc (suc zero)))))) few u (pos n) e = rw e (grind (arith, ints))
shifted_6 (suc (suc (suc (suc (suc (suc (suc zero))))))) few u (pos n) e = rw e (grind (arith, ints))
shifted_6 zero few u (negsuc n) e = rw e (grind (arith, ints))
shifted_6 (suc zero) few u (negsuc n) e = rw e (grind (arith, ints))
shifted_6 (suc (suc zero)) few u (negsuc n) e = rw e (grind (arith, ints))
shifted_6 (suc (suc (suc zero))) few u (negsuc n) e = rw e (grind (arith, ints))
shifted_6 (suc (suc (suc (suc zero)))) few u (negsuc n) e = rw e (grind (arith, ints))
shifted_6 (suc (suc (suc (suc (suc zero))))) few u (negsuc n) e = rw e (grind (arith, ints))
shifted_6 (suc (suc (suc (suc (suc (suc zero)))))) few u (negsuc n) e = rw e (grind (arith, ints))
shifted_6 (suc (suc (suc (suc (suc (suc (suc zero))))))) few u (negsuc n) e = rw e (grind (arith, ints))
shifted_6 (suc (suc (suc (suc (suc (suc (suc (suc d)))))))) few u v e = absurd (omega (arith, few))

shifted_7 : (d : ℕ) → d ≤ 7 → (u v : ℤ) → u ≡ v *ℤ pos (2 ^ d) → int_shr u (d + 7) ≡ int_shr v 7
shifted_7 zero few u (pos n) e = rw e (grind (arith, ints))
shifted_7 (suc zero) few u (pos n) e = rw e (grind (arith, ints))
shifted_7 (suc (suc zero)) few u (pos n) e = rw e (grind (arith, ints))
shifted_7 (suc (suc (suc zero))) few u (pos n) e = rw e (grind (arith, ints))
shifted_7 (suc (suc (suc (suc zero)))) few u (pos n) e = rw e (grind (arith, ints))
shifted_7 (suc (suc (suc (suc (suc zero))))) few u (pos n) e = rw e (grind (arith, ints))
shifted_7 (suc (suc (suc (suc (suc (suc zero)))))) few u (pos n) e = rw e (grind (arith, ints))
shifted_7 (suc (suc (suc (suc (suc (suc (suc zero))))))) few u (pos n) e = rw e (grind (arith, ints))
shifted_7 zero few u (negsuc n) e = rw e (grind (arith, ints))
shifted_7 (suc zero) few u (negsuc n) e = rw e (grind (arith, ints))
shifted_7 (suc (suc zero)) few u (negsuc n) e = rw e (grind (arith, ints))
shifted_7 (suc (suc (suc zero))) few u (negsuc n) e = rw e (grind (arith, ints))
shifted_7 (suc (suc (suc (suc zero)))) few u (negsuc n) e = rw e (grind (arith, ints))
shifted_7 (suc (suc (suc (suc (suc zero))))) few u (negsuc n) e = rw e (grind (arith, ints))
shifted_7 (suc (suc (suc (suc (suc (suc zero)))))) few u (negsuc n) e = rw e (grind (arith, ints))
shifted_7 (suc (suc (suc (suc (suc (suc (suc zero))))))) few u (negsuc n) e = rw e (grind (arith, ints))
shifted_7 (suc (suc (suc (suc (suc (suc (suc (suc d)))))))) few u v e = absurd (omega (arith, few))

thirty_two : (d : ℕ) → d ≤ 7 → (p : ℤ) → p *ℤ pos (2 ^ d) +ℤ pos (2 ^ (d + 5)) ≡ (p +ℤ pos 32) *ℤ pos (2 ^ d)
thirty_two zero few p = omega (arith, ints)
thirty_two (suc zero) few p = omega (arith, ints)
thirty_two (suc (suc zero)) few p = omega (arith, ints)
thirty_two (suc (suc (suc zero))) few p = omega (arith, ints)
thirty_two (suc (suc (suc (suc zero)))) few p = omega (arith, ints)
thirty_two (suc (suc (suc (suc (suc zero))))) few p = omega (arith, ints)
thirty_two (suc (suc (suc (suc (suc (suc zero)))))) few p = omega (arith, ints)
thirty_two (suc (suc (suc (suc (suc (suc (suc zero))))))) few p = omega (arith, ints)
thirty_two (suc (suc (suc (suc (suc (suc (suc (suc d)))))))) few p = absurd (omega (arith, few))

sixty_four : (d : ℕ) → d ≤ 7 → (p q : ℤ)
    → p *ℤ pos (2 ^ d) +ℤ q *ℤ pos (2 ^ d) +ℤ pos 1 *ℤ pos (2 ^ (d + 6)) ≡ (p +ℤ q +ℤ pos 64) *ℤ pos (2 ^ d)
sixty_four zero few p q = omega (arith, ints)
sixty_four (suc zero) few p q = omega (arith, ints)
sixty_four (suc (suc zero)) few p q = omega (arith, ints)
sixty_four (suc (suc (suc zero))) few p q = omega (arith, ints)
sixty_four (suc (suc (suc (suc zero)))) few p q = omega (arith, ints)
sixty_four (suc (suc (suc (suc (suc zero))))) few p q = omega (arith, ints)
sixty_four (suc (suc (suc (suc (suc (suc zero)))))) few p q = omega (arith, ints)
sixty_four (suc (suc (suc (suc (suc (suc (suc zero))))))) few p q = omega (arith, ints)
sixty_four (suc (suc (suc (suc (suc (suc (suc (suc d)))))))) few p q = absurd (omega (arith, few))

rounded_at : (d : ℕ) (v : ℤ) → rounded_if_shifted (d + 6) v ≡ int_shr (v +ℤ pos (2 ^ (d + 5))) (d + 6)
unfolding rounded_if_shifted
rounded_at d v =
    let e : d + 6 - 1 ≡ d + 5 = omega arith in
    rw (← e) (grind (arith, nat_tests))

no_offset : (z : ℤ) → z +ℤ pos 0 *ℤ pos 1 ≡ z
no_offset z = omega (arith, ints)

pub plain_one : (d : ℕ) (w : Weight) (p : ℤ) → d ≤ 7 → w.weight ≡ pos (2 ^ d) → w.offset ≡ pos 0
    → explicit_one 8 (d + 6) w p ≡ default_one 8 p
unfolding explicit_one default_one rounded_if_shifted
plain_one d w p few we oe =
    let u = p *ℤ pos (2 ^ d) in
    let r : rounded_if_shifted (d + 6) u ≡ int_shr (p +ℤ pos 32) 6 =
    rounded_at d u ∙ shifted_6 d few (u +ℤ pos (2 ^ (d + 5))) (p +ℤ pos 32) (thirty_two d few p) in
    rw (we, oe) (ap (λ (z : ℤ). clip1 8 (z +ℤ pos 0 *ℤ pos 1)) r ∙ ap (clip1 8) (no_offset (int_shr (p +ℤ pos 32) 6)))

pub plain_two : (d : ℕ) (w v : Weight) (p q : ℤ) → d ≤ 7 → w.weight ≡ pos (2 ^ d) → w.offset ≡ pos 0
    → v.weight ≡ pos (2 ^ d) → v.offset ≡ pos 0 → explicit_two 8 (d + 6) w v p q ≡ default_two 8 p q
unfolding explicit_two default_two rounded_if_shifted
plain_two d w v p q few we oe ve ue =
    let e : d + 6 + 1 ≡ d + 7 = omega arith in
    rw (we, oe, ve, ue, e) (ap (clip1 8) (shifted_7 d few _ (p +ℤ q +ℤ pos 64) (sixty_four d few p q)))
