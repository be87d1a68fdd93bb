-- What the bytes at a place say of a unit's end, and of the zero bytes at its end.
use Rattle.std.proofs.Common.{◌≡◌, ℕ, zero, suc, ◌+◌, ◌<◌, ◌≤◌, Bool, true, false, List, [], ◌∷◌, length, get_or}
use Rattle.std.proofs.Common.{take}
use Rattle.std.proofs.Common.{drop, refl, sym, ap, ◌∙◌, arith}
use Rattle.std.specs.Prelude.{◌&&◌, ◌==◌, nat_lt}
use Rattle.std.proofs.lemmas.Bool.Decides.{Decides-eqb}
use borrow.Author.Tests.{ltb-true, ltb-false}
use Rattle.spec_nal_units.specs.Units.{ends_unit, all_zero, trimmed}
use Rattle.spec_nal_units.proofs.Ends.{decide, if_true, if_false, and_left}

pub not_true : (b : Bool) → (b ≡ true → ⊥) → b ≡ false
not_true true f = absurd (f refl)
not_true false f = refl

pub and_right : (a b : Bool) → (a && b) ≡ true → b ≡ true
and_right true b h = h
and_right false b h = cc

pub and_both : (a b : Bool) → a ≡ true → b ≡ true → (a && b) ≡ true
and_both true b h k = k
and_both false b h k = h

same_number : (x y : ℕ) → (x == y) ≡ true → x ≡ y
same_number x y h = let d = Decides-eqb x y in d.0 h

-- whether a unit ends at a place, by the three bytes there
ends_unit-suc : (bs : List ℕ) (i : ℕ) → suc (suc i) < length bs
    → ends_unit (drop i bs)
    ≡ ((get_or bs i 0 == 0) && (get_or bs (suc i) 0 == 0) && nat_lt (get_or bs (suc (suc i)) 0) 2)
ends_unit-suc [] i h = absurd (omega arith)
ends_unit-suc (a ∷ []) zero h = absurd (omega arith)
ends_unit-suc (a ∷ b ∷ []) zero h = absurd (omega arith)
ends_unit-suc (a ∷ b ∷ c ∷ bs) zero h = refl
ends_unit-suc (a ∷ bs) (suc i) h = ends_unit-suc bs i (omega arith)

pub ends_unit-at : (bs : List ℕ) (i j k : ℕ) → j ≡ i + 1 → k ≡ i + 2 → k < length bs
    → ends_unit (drop i bs) ≡ ((get_or bs i 0 == 0) && (get_or bs j 0 == 0) && nat_lt (get_or bs k 0) 2)
ends_unit-at bs i j k d e h =
    let dd : suc i ≡ j = omega arith in
    let ee : suc (suc i) ≡ k = omega arith in
    ends_unit-suc bs i (omega arith)
    ∙ ap (λ n. (get_or bs i 0 == 0) && (get_or bs n 0 == 0) && nat_lt (get_or bs (suc (suc i)) 0) 2) dd
    ∙ ap (λ n. (get_or bs i 0 == 0) && (get_or bs j 0 == 0) && nat_lt (get_or bs n 0) 2) ee

-- where a unit ends, the three bytes are these
record EndsAt (bs : List ℕ) (i : ℕ) : Type 0 where
  first : get_or bs i 0 ≡ 0
  second : get_or bs (suc i) 0 ≡ 0
  third : get_or bs (suc (suc i)) 0 < 2

ends_unit-bytes : (bs : List ℕ) (i : ℕ) → ends_unit (drop i bs) ≡ true → EndsAt bs i
ends_unit-bytes [] zero h = cc
ends_unit-bytes [] (suc i) h = cc
ends_unit-bytes (a ∷ []) zero h = cc
ends_unit-bytes (a ∷ b ∷ []) zero h = cc
ends_unit-bytes (a ∷ b ∷ c ∷ bs) zero h = record {
  first = same_number a 0 (and_left (a == 0) _ (and_left ((a == 0) && (b == 0)) _ h));
  second = same_number b 0 (and_right (a == 0) _ (and_left ((a == 0) && (b == 0)) _ h));
  third = ltb-true _ _ (and_right ((a == 0) && (b == 0)) _ h);
}
ends_unit-bytes (a ∷ bs) (suc i) h =
    let e = ends_unit-bytes bs i h in record { first = e.first; second = e.second; third = e.third }

impossible : (j at third : ℕ) {next : ℕ} → j < next → at ≤ j → third ≡ at + 2 → next ≡ at + 3 → (j ≡ at → ⊥)
    → (suc j ≡ third → ⊥) → (j ≡ third → ⊥) → ⊥
impossible j at third lt ge d n a b c = omega arith

-- a byte over 01 is none of the three, so that three places are passed at once
pub none_before_three : (bs : List ℕ) (at third next : ℕ) → third ≡ at + 2 → next ≡ at + 3 → 1 < get_or bs third 0
    → ((j : ℕ) → j < at → ends_unit (drop j bs) ≡ false) → (j : ℕ) → j < next → ends_unit (drop j bs) ≡ false
none_before_three bs at third next d n big below j lt =
    decide (nat_lt j at)
    (λ t. below j (ltb-true _ _ t))
    (λ f. let ge : at ≤ j = ltb-false _ _ f in
    not_true (ends_unit (drop j bs)) (λ t. let e = ends_unit-bytes bs j t in
    decide (j == at)
    (λ s. let is = same_number j at s in
    let k : suc (suc j) ≡ third = omega arith in omega (arith, e.third, ap (λ m. get_or bs m 0) k))
    (λ s. decide (suc j == third)
    (λ u. let k = same_number (suc j) third u in omega (arith, e.second, ap (λ m. get_or bs m 0) k))
    (λ u. let no = Decides-eqb (suc j) third in let no2 = Decides-eqb j at in
    decide (j == third)
    (λ v. let k = same_number j third v in omega (arith, e.first, ap (λ m. get_or bs m 0) k))
    (λ v. let no3 = Decides-eqb j third in
    impossible j at third lt ge d n (λ q. cc (no2.1 q)) (λ q. cc (no.1 q)) (λ q. cc (no3.1 q)))))))

all_zero-get : (bs : List ℕ) (i : ℕ) → all_zero bs ≡ true → get_or bs i 0 ≡ 0
all_zero-get [] i h = refl
all_zero-get (b ∷ bs) zero h = same_number b 0 (and_left (b == 0) _ h)
all_zero-get (b ∷ bs) (suc i) h = all_zero-get bs i (and_right (b == 0) _ h)

pub trimmed-none : (bs : List ℕ) → all_zero bs ≡ true → trimmed bs ≡ []
trimmed-none [] h = refl
trimmed-none (b ∷ bs) h = if_true _ _ _ h

trimmed-suc : (bs : List ℕ) (k : ℕ) → k < length bs → (get_or bs k 0 ≡ 0 → ⊥) → all_zero (drop (suc k) bs) ≡ true
    → trimmed bs ≡ take (suc k) bs
trimmed-suc [] k lt ne h = absurd (omega arith)
trimmed-suc (b ∷ bs) zero lt ne h =
    if_false _ _ _ (not_true _ (λ t. ne (all_zero-get (b ∷ bs) 0 t))) ∙ ap (λ xs. b ∷ xs) (trimmed-none bs h)
trimmed-suc (b ∷ bs) (suc k) lt ne h =
    if_false _ _ _ (not_true _ (λ t. ne (all_zero-get (b ∷ bs) (suc k) t)))
    ∙ ap (λ xs. b ∷ xs) (trimmed-suc bs k (omega arith) ne h)

pub trimmed-take : (bs : List ℕ) (k n : ℕ) → n ≡ k + 1 → k < length bs → (get_or bs k 0 ≡ 0 → ⊥)
    → all_zero (drop n bs) ≡ true → trimmed bs ≡ take n bs
trimmed-take bs k n e lt ne h =
    let s : n ≡ suc k = omega arith in
    trimmed-suc bs k lt ne (ap (λ m. all_zero (drop m bs)) (sym s) ∙ h) ∙ ap (λ m. take m bs) (sym s)
