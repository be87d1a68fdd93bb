-- Which picture of a made stream is shown at a place, by the place's number in its group.
use Rattle.std.proofs.Common.{◌≡◌, ℕ, zero, suc, ◌+◌, ◌-◌, ◌%◌, ◌<◌, ◌≤◌, Bool, true, false, cond, refl, ap, ◌∙◌}
use Rattle.std.proofs.Common.{arith}
use Rattle.std.specs.Prelude.{◌==◌, ◌||◌}
use Rattle.std.proofs.lemmas.Bool.{eqb-true}
use Rattle.std.proofs.lemmas.Bool.Decides.{nat_tests}
use Rattle.made_laws.specs.Outputs.{shown_at}

shown_by : (begins even seven last : Bool) (place out : ℕ)
    → cond {A = ℕ} begins place (cond {A = ℕ} even (place - 1) (cond {A = ℕ} (seven || last) place (place + 1))) ≡ out
    → (pictures : ℕ) → (place % 8 == 0) ≡ begins → (place % 2 == 0) ≡ even → (place % 8 == 7) ≡ seven
    → (place + 1 == pictures) ≡ last → shown_at pictures place ≡ out
shown_by begins even seven last place out is pictures e f g h = rw (e, f, g, h) is

either : (seven : Bool) (p : ℕ) → cond {A = ℕ} (seven || true) p (p + 1) ≡ p
either true p = refl
either false p = refl

-- an IDR picture
pub shown_idr : (n p : ℕ) → p % 8 ≡ 0 → shown_at n p ≡ p
shown_idr n p is =
    let begins : (p % 8 == 0) ≡ true = grind (arith, nat_tests) in
    shown_by true (p % 2 == 0) (p % 8 == 7) (p + 1 == n) p p refl n begins refl refl refl

-- a P picture, behind its B picture
pub shown_p : (n p : ℕ) → p % 2 ≡ 0 → 1 ≤ p % 8 → shown_at n p ≡ p - 1
shown_p n p even some =
    let begins : (p % 8 == 0) ≡ false = grind (arith, nat_tests) in
    let second : (p % 2 == 0) ≡ true = grind (arith, nat_tests) in
    shown_by false true (p % 8 == 7) (p + 1 == n) p (p - 1) refl n begins second refl refl

-- the last P picture of a group
pub shown_seven : (n p : ℕ) → p % 8 ≡ 7 → shown_at n p ≡ p
shown_seven n p is =
    let begins : (p % 8 == 0) ≡ false = grind (arith, nat_tests) in
    let second : (p % 2 == 0) ≡ false = grind (arith, nat_tests) in
    let seven : (p % 8 == 7) ≡ true = grind (arith, nat_tests) in
    shown_by false false true (p + 1 == n) p p refl n begins second seven refl

-- a P picture at the stream's end
pub shown_last : (n p : ℕ) → p % 2 ≡ 1 → p + 1 ≡ n → shown_at n p ≡ p
shown_last n p odd end =
    let begins : (p % 8 == 0) ≡ false = grind (arith, nat_tests) in
    let second : (p % 2 == 0) ≡ false = grind (arith, nat_tests) in
    let last : (p + 1 == n) ≡ true = grind (arith, nat_tests) in
    shown_by false false (p % 8 == 7) true p p (either (p % 8 == 7) p) n begins second refl last

-- a B picture
pub shown_b : (n p : ℕ) → p % 2 ≡ 1 → p % 8 < 7 → p + 1 < n → shown_at n p ≡ p + 1
shown_b n p odd few inside =
    let begins : (p % 8 == 0) ≡ false = grind (arith, nat_tests) in
    let second : (p % 2 == 0) ≡ false = grind (arith, nat_tests) in
    let seven : (p % 8 == 7) ≡ false = grind (arith, nat_tests) in
    let last : (p + 1 == n) ≡ false = grind (arith, nat_tests) in
    shown_by false false false false p (p + 1) refl n begins second seven last

-- ---- the picture that is shown at a place is shown nowhere else

pub next_inside : (n p : ℕ) → p < n → (p + 1 == n) ≡ false → p + 1 < n
next_inside n p h e = grind (arith, nat_tests)

again : (n p q : ℕ) → shown_at n p ≡ q → shown_at n q ≡ p → shown_at n (shown_at n p) ≡ p
again n p q e f = ap (shown_at n) e ∙ f

-- at an odd place that isn't a group's last
odd_again : (last : Bool) (n p : ℕ) → p < n → p % 2 ≡ 1 → p % 8 < 7 → (p + 1 == n) ≡ last
    → shown_at n (shown_at n p) ≡ p
odd_again true n p h odd few end =
    let e = shown_last n p odd (eqb-true (p + 1) n end) in again n p p e e
odd_again false n p h odd few end =
    let back : p + 1 - 1 ≡ p = omega arith in
    again n p (p + 1) (shown_b n p odd few (next_inside n p h end))
    (shown_p n (p + 1) (omega arith) (omega arith) ∙ back)

even_again : (n p : ℕ) → p < n → p % 2 ≡ 0 → 1 ≤ p % 8 → shown_at n (shown_at n p) ≡ p
even_again n p h even some =
    let back : p - 1 + 1 ≡ p = omega arith in
    again n p (p - 1) (shown_p n p even some)
    (shown_b n (p - 1) (omega arith) (omega arith) (omega arith) ∙ back)

by_rest : (g n p : ℕ) → p < n → p % 8 ≡ g → g < 8 → shown_at n (shown_at n p) ≡ p
by_rest zero n p h is few = let e = shown_idr n p is in again n p p e e
by_rest (suc zero) n p h is few = odd_again (p + 1 == n) n p h (omega arith) (omega arith) refl
by_rest (suc (suc zero)) n p h is few = even_again n p h (omega arith) (omega arith)
by_rest (suc (suc (suc zero))) n p h is few = odd_again (p + 1 == n) n p h (omega arith) (omega arith) refl
by_rest (suc (suc (suc (suc zero)))) n p h is few = even_again n p h (omega arith) (omega arith)
by_rest (suc (suc (suc (suc (suc zero))))) n p h is few =
    odd_again (p + 1 == n) n p h (omega arith) (omega arith) refl
by_rest (suc (suc (suc (suc (suc (suc zero)))))) n p h is few = even_again n p h (omega arith) (omega arith)
by_rest (suc (suc (suc (suc (suc (suc (suc zero))))))) n p h is few = let e = shown_seven n p is in again n p p e e
by_rest (suc (suc (suc (suc (suc (suc (suc (suc g)))))))) n p h is few = absurd (omega arith)

pub once : (n p : ℕ) → p < n → shown_at n (shown_at n p) ≡ p
once n p h = by_rest (p % 8) n p h refl (omega arith)
