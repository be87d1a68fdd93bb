-- Places that pass a test.
use Rattle.std.proofs.Common.{◌≡◌, ℕ, zero, suc, ◌+◌, ◌<◌, ◌≤◌, Bool, true, false, [], ◌∷◌, ◌++◌, List, length}
use Rattle.std.proofs.Common.{get_or}
use Rattle.std.proofs.Common.{refl, sym, ap, subst, ◌∙◌, arith, length-append, ltb-true, ltb-false}
use Rattle.std.specs.Prelude.{◌&&◌, ◌==◌, not, nat_le, nat_lt}
use Rattle.std.specs.List.Sorted.{IsStrictlyIncreasing}
use Rattle.std.proofs.lemmas.Bool.Decides.{Decides-eqb}
use Rattle.std.proofs.lemmas.List.{length_push, get_or_append_left, get_or_push}
use Rattle.spec_nal_units.specs.Judged.{places}
use Rattle.spec_nal_units.proofs.Ends.{decide, if_true, if_false}

pub some_place : (test : ℕ → Bool) (n i : ℕ) → i < n → test i ≡ true → 0 < length (places test n)
some_place test zero i lt t = absurd (omega arith)
some_place test (suc n) i lt t =
    decide (test n)
    (λ y. let e = ap length (if_true (test n) (places test n ++ n ∷ []) (places test n) y) in
    omega (arith, e, length-append (places test n) (n ∷ [])))
    (λ f. let e = ap length (if_false (test n) (places test n ++ n ∷ []) (places test n) f) in
    decide (i == n)
    (λ s. let d = Decides-eqb i n in let is = d.0 s in let no : true ≡ false = sym t ∙ ap test is ∙ f in cc)
    (λ s. let d = Decides-eqb i n in
    let ne : i ≡ n → ⊥ = λ q. cc (d.1 q) in omega (arith, e, some_place test n i (omega arith) t)))

and_not : (a b : Bool) → b ≡ true → (a && not b) ≡ false
and_not true true h = refl
and_not true false h = cc
and_not false b h = refl

one_more : (test : ℕ → Bool) (n : ℕ) → length (places test (suc n)) ≤ length (places test n) + 1
one_more test n =
    decide (test n)
    (λ y. let e = ap length (if_true (test n) (places test n ++ n ∷ []) (places test n) y) in
    omega (arith, e, length-append (places test n) (n ∷ [])))
    (λ y. let e = ap length (if_false (test n) (places test n ++ n ∷ []) (places test n) y) in omega (arith, e))

-- what is removed and what is kept are apart
pub places-apart : (test : ℕ → Bool) (n : ℕ)
    → length (places (λ i. nat_le 2 i && not (test i)) n) + length (places test n) ≤ n
places-apart test zero = omega arith
places-apart test (suc n) =
    let keep : ℕ → Bool = λ i. nat_le 2 i && not (test i) in
    decide (test n)
    (λ y. let no : keep n ≡ false = and_not (nat_le 2 n) (test n) y in
    let e = ap length (if_true (test n) (places test n ++ n ∷ []) (places test n) y) in
    let f = ap length (if_false (keep n) (places keep n ++ n ∷ []) (places keep n) no) in
    omega (arith, e, f, length-append (places test n) (n ∷ []), places-apart test n))
    (λ y. let e = ap length (if_false (test n) (places test n ++ n ∷ []) (places test n) y) in
    omega (arith, e, one_more keep n, places-apart test n))

-- numbers below n, each behind the one before it
abbrev RisesBelow : ℕ → List ℕ → Type 0
RisesBelow n xs = ((k : ℕ) → k < length xs → get_or xs k 0 < n) × IsStrictlyIncreasing xs

pushed : (n : ℕ) (xs : List ℕ) → RisesBelow n xs → RisesBelow (suc n) (xs ++ n ∷ [])
pushed n xs r =
    let long = length_push xs n in
    let first : (k : ℕ) → k < length xs → get_or (xs ++ n ∷ []) k 0 ≡ get_or xs k 0 =
    λ k lt. get_or_append_left xs (n ∷ []) 0 k lt in (
      (λ k lt. decide (nat_lt k (length xs))
          (λ y. let l = ltb-true k (length xs) y in omega (arith, first k l, r.0 k l))
          (λ f. let e : length xs ≡ k = omega (arith, ltb-false k (length xs) f) in
          omega (arith, get_or_push xs n 0 k e))),
      λ k lt. let l : k < length xs = omega arith in decide (nat_lt (k + 1) (length xs))
          (λ y. let m = ltb-true (k + 1) (length xs) y in omega (arith, first k l, first (k + 1) m, r.1 k m))
          (λ f. let e : length xs ≡ k + 1 = omega (arith, ltb-false (k + 1) (length xs) f) in
          omega (arith, first k l, get_or_push xs n 0 (k + 1) e, r.0 k l)),
    )

rise : (test : ℕ → Bool) (n : ℕ) → RisesBelow n (places test n)
rise test zero = ((λ k lt. absurd (omega arith)), λ k lt. absurd (omega arith))
rise test (suc n) =
    let r = rise test n in
    decide (test n)
    (λ y. subst (RisesBelow (suc n)) (sym (if_true (test n) (places test n ++ n ∷ []) (places test n) y))
    (pushed n (places test n) r))
    (λ f. subst (RisesBelow (suc n)) (sym (if_false (test n) (places test n ++ n ∷ []) (places test n) f))
    ((λ k lt. omega (arith, r.0 k lt)), r.1))

-- the places ascend
pub places-rise : (test : ℕ → Bool) (n : ℕ) → IsStrictlyIncreasing (places test n)
places-rise test n = (rise test n).1
