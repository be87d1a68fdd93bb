-- What is among the pieces of a list, and tests of all numbers of a range.
use Rattle.std.proofs.Common.{◌≡◌, ℕ, zero, suc, ◌+◌, ◌-◌, ◌<◌, ◌≤◌, Bool, true, false, cond, List, [], ◌∷◌, ◌++◌}
use Rattle.std.proofs.Common.{All}
use Rattle.std.proofs.Common.{length, get_or, refl, sym, ap, subst, ◌∙◌, arith, inl, inr}
use Rattle.std.specs.List.{Contains, filter, flat_map, list_all, range_with_len}
use Rattle.std.proofs.lemmas.Bool.{and_from, and_parts, cases_lt}
use Rattle.std.proofs.lemmas.List.{get_or_append_left, get_or-append_right, length-append}
use Rattle.std.proofs.lemmas.List.Concat.{flat_map-cons}

pub holds_of : {X : Type 0} (P : X → Type 0) (xs : List X) (x : X) → All P xs → Contains xs x → P x
holds_of P xs x all (k, inside, is) = subst P is (all k x inside)

pub in_left : {X : Type 0} (xs ys : List X) (x : X) → Contains xs x → Contains (xs ++ ys) x
in_left xs ys x (k, inside, is) =
    (k, omega (arith, inside, length-append xs ys), get_or_append_left xs ys x k inside ∙ is)

pub in_right : {X : Type 0} (xs ys : List X) (x : X) → Contains ys x → Contains (xs ++ ys) x
in_right xs ys x (k, inside, is) =
    let n : ℕ = length xs in
    let e = get_or-append_right xs ys n (n + k) x (λ _. n) (omega arith) in
    let at : n + k - n ≡ k = omega arith in
    (n + k, omega (arith, inside, length-append xs ys), e ∙ ap (λ i. get_or ys i x) at ∙ is)

pub in_pieces : {A X : Type 0} (f : A → List X) (xs : List A) (k : ℕ) (d : A) (y : X) → k < length xs
    → Contains (f (get_or xs k d)) y → Contains (flat_map f xs) y
in_pieces f [] k d y inside has = absurd (omega (arith, inside))
in_pieces f (x ∷ xs) zero d y inside has =
    subst (λ l. Contains l y) (sym (flat_map-cons f x xs)) (in_left (f x) (flat_map f xs) y has)
in_pieces f (x ∷ xs) (suc k) d y inside has =
    subst (λ l. Contains l y) (sym (flat_map-cons f x xs))
    (in_right (f x) (flat_map f xs) y (in_pieces f xs k d y (omega (arith, inside)) has))

one_later : {X : Type 0} (y x : X) (xs : List X) (b : Bool) → Contains xs x → Contains (cond b (y ∷ xs) xs) x
one_later y x xs true (k, inside, is) = (suc k, omega (arith, inside), is)
one_later y x xs false has = has

pub in_filter : {X : Type 0} (test : X → Bool) (xs : List X) (k : ℕ) (x : X) → k < length xs → get_or xs k x ≡ x
    → test x ≡ true → Contains (filter test xs) x
in_filter test [] k x inside is t = absurd (omega (arith, inside))
in_filter test (y ∷ ys) zero x inside is t =
    let e : filter test (y ∷ ys) ≡ y ∷ filter test ys =
    ap (λ b. cond b (y ∷ filter test ys) (filter test ys)) (ap test is ∙ t) in
    subst (λ l. Contains l x) (sym e) (0, omega arith, is)
in_filter test (y ∷ ys) (suc k) x inside is t =
    one_later y x (filter test ys) (test y) (in_filter test ys k x (omega (arith, inside)) is t)

pub all_range : (test : ℕ → Bool) (first count : ℕ)
    → ((k : ℕ) → first ≤ k → k < first + count → test k ≡ true) → list_all test (range_with_len first count) ≡ true
all_range test first zero each = refl
all_range test first (suc count) each =
    and_from _ _ (each first (omega arith) (omega arith))
    (all_range test (first + 1) count (λ k low high. each k (omega (arith, low)) (omega (arith, high))))

pub each_range : (test : ℕ → Bool) (first count k : ℕ) → list_all test (range_with_len first count) ≡ true
    → first ≤ k → k < first + count → test k ≡ true
each_range test first zero k all low high = absurd (omega (arith, low, high))
each_range test first (suc count) k all low high =
    let parts = and_parts (test first) (list_all test (range_with_len (first + 1) count)) all in
    elim (cases_lt first k) [
      | inl later ↦ each_range test (first + 1) count k parts.1 (omega (arith, later)) (omega (arith, high))
      | inr here ↦ let e : first ≡ k = omega (arith, low, here) in ap test (sym e) ∙ parts.0
    ]
