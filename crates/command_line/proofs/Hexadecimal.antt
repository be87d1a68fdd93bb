-- Numbers in 16 hexadecimal digits.
use Rattle.std.proofs.Common.{◌≡◌, ℕ, zero, suc, ◌+◌, ◌-◌, ◌^◌, ◌/◌, ◌%◌, ◌<◌, ◌≤◌, Bool, true, false, List, []}
use Rattle.std.proofs.Common.{◌∷◌, ◌++◌, length}
use Rattle.std.proofs.Common.{refl, sym, ap, subst, ◌∙◌, arith, eqb-true}
use Rattle.std.specs.Prelude.{replicate, ◌==◌}
use Rattle.std.specs.Fmt.{digit_glyph, digits, digits_onto}
use Rattle.std.proofs.lemmas.Bool.{eqb-false}
use Rattle.std.proofs.lemmas.List.{append-nil}
use Rattle.hv_base.specs.Text.{hexadecimal}
use Rattle.command_line.specs.LineText.{last_digits}

-- zeros and a zero more
more_zeros : (count : ℕ) (acc : List ℕ) → replicate count 48 ++ (48 ∷ acc) ≡ 48 ∷ (replicate count 48 ++ acc)
more_zeros zero acc = refl
more_zeros (suc count) acc = ap (λ l. 48 ∷ l) (more_zeros count acc)

appended : (xs ys zs : List ℕ) → (xs ++ ys) ++ zs ≡ xs ++ (ys ++ zs)
appended [] ys zs = refl
appended (x ∷ xs) ys zs = ap (λ l. x ∷ l) (appended xs ys zs)

-- the last digits of 0
of_zero : (count : ℕ) (acc : List ℕ) → last_digits count 0 ++ acc ≡ replicate count 48 ++ acc
of_zero zero acc = refl
of_zero (suc count) acc =
    appended (last_digits count 0) (48 ∷ []) acc ∙ of_zero count (48 ∷ acc) ∙ more_zeros count acc

-- zeros, so that there are count digits before those that are counted already, and the digits of a number
abbrev filled : ℕ → ℕ → ℕ → List ℕ → List ℕ
filled count fuel n acc =
    replicate (count + length acc - length (digits_onto fuel 16 false n acc)) 48 ++ digits_onto fuel 16 false n acc

step : (count fuel n : ℕ) (acc : List ℕ) (b : Bool) → (n / 16 == 0) ≡ b
    → (1 ≤ n / 16 → last_digits count (n / 16) ++ (digit_glyph false (n % 16) ∷ acc)
    ≡ filled count fuel (n / 16) (digit_glyph false (n % 16) ∷ acc))
    → last_digits count (n / 16) ++ (digit_glyph false (n % 16) ∷ acc) ≡ filled (suc count) (suc fuel) n acc
step count fuel n acc true is before =
    let none : n / 16 ≡ 0 = eqb-true (n / 16) 0 is in
    let left : suc count + length acc - suc (length acc) ≡ count = omega arith in
    rw (none, left) (of_zero count (digit_glyph false (n % 16) ∷ acc))
step count fuel n acc false is before =
    let more : 1 ≤ n / 16 = omega (arith, eqb-false (n / 16) 0 is) in
    let same : count + suc (length acc) ≡ suc count + length acc = omega arith in
    rw (is) (subst (λ m. last_digits count (n / 16) ++ (digit_glyph false (n % 16) ∷ acc)
    ≡ replicate (m - length (digits_onto fuel 16 false (n / 16) (digit_glyph false (n % 16) ∷ acc))) 48
    ++ digits_onto fuel 16 false (n / 16) (digit_glyph false (n % 16) ∷ acc)) same (before more))

some_left : (count m : ℕ) → 1 ≤ m → m < 16 ^ count → 1 ≤ count
some_left zero m some small = omega (arith, some, small)
some_left (suc count) m some small = omega arith

behind_zeros : (count fuel n : ℕ) (acc : List ℕ) → count ≤ fuel → 1 ≤ count → n < 16 ^ count
    → last_digits count n ++ acc ≡ filled count fuel n acc
behind_zeros zero fuel n acc enough some small = absurd (omega (arith, some))
behind_zeros (suc count) zero n acc enough some small = absurd (omega (arith, enough))
behind_zeros (suc count) (suc fuel) n acc enough some small =
    let less : n / 16 < 16 ^ count = omega (arith, small) in
    appended (last_digits count (n / 16)) (digit_glyph false (n % 16) ∷ []) acc
    ∙ step count fuel n acc (n / 16 == 0) refl
    (λ more. behind_zeros count fuel (n / 16) (digit_glyph false (n % 16) ∷ acc) (omega (arith, enough))
    (some_left count (n / 16) more less) less)

pub sixteen : (n : ℕ) → n < 2 ^ 64 → last_digits 16 n ≡ hexadecimal n
unfolding digits
sixteen n small =
    sym (append-nil (last_digits 16 n)) ∙ behind_zeros 16 64 n [] (omega arith) (omega arith) (omega (arith, small))
