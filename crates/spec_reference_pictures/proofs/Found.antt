-- Places of pictures that were found.
use Rattle.std.proofs.Common.{ℕ, zero, suc, ◌≡◌, ◌∙◌, ◌<◌, ◌==◌, ◌⊎◌, inl, inr, Bool, true, false, ◌||◌, cond}
use Rattle.std.proofs.Common.{if◌then◌else◌, List, [], ◌∷◌, ◌++◌, map, length, get_or, Option, Some, None, arith}
use Rattle.std.proofs.Common.{refl}
use Rattle.std.proofs.Common.{sym, ap, subst}
use Rattle.std.specs.List.{Contains, filter}
use Rattle.std.proofs.lemmas.Bool.{cases_lt}
use Rattle.std.proofs.lemmas.Bool.Decides.{Decides-eqb}
use Rattle.std.proofs.lemmas.List.{get_or_past}
use Rattle.std.proofs.lemmas.List.Elements.{Contains-append_cases, Contains-append_right}
use Rattle.std.proofs.lemmas.List.Folds.{list_any_at}
use Rattle.spec_reference_pictures.specs.ReferencePictureSet.{found, greatest_below, is_among, is_place}

by_test : (test : ℕ → Bool) (n k : ℕ) (b : Bool) → (greatest_below test n ≡ Some k → (k < n) × (test k ≡ true))
    → test n ≡ b → (if b then Some n else greatest_below test n) ≡ Some k
    → (k < suc n) × (test k ≡ true)
by_test test n k true below holds is =
    let same : n ≡ k = cc in (omega arith, subst (λ (j : ℕ). test j ≡ true) same holds)
by_test test n k false below fails is = let lower = below is in (omega (arith, lower.0), lower.1)

-- the greatest place for which a test holds is below the bound, and the test holds for it
pub greatest_holds : (test : ℕ → Bool) (n k : ℕ) → greatest_below test n ≡ Some k → (k < n) × (test k ≡ true)
unfolding greatest_below
greatest_holds test zero k e = let none : ◌≡◌ {A = Option ℕ} None (Some k) = e in cc
greatest_holds test (suc n) k e = by_test test n k (test n) (greatest_holds test n k) refl e

-- the place that this is
pub place_is : (place : Option ℕ) (k : ℕ) → is_place k place ≡ true → place ≡ Some k
place_is None k e = cc
place_is (Some j) k e = ap Some ((Decides-eqb j k).0 e)

pub is_its_place : (place : Option ℕ) (k : ℕ) → place ≡ Some k → is_place k place ≡ true
is_its_place place k e = ap (is_place k) e ∙ (Decides-eqb k k).1 refl

either : (b c : Bool) → (b || c) ≡ true → (b ≡ true) ⊎ (c ≡ true)
either true c e = inl refl
either false c e = inr e

left_holds : (b c : Bool) → b ≡ true → (b || c) ≡ true
left_holds b c e = ap (λ x. x || c) e

right_holds : (b c : Bool) → c ≡ true → (b || c) ≡ true
right_holds true c e = refl
right_holds false c e = e

first_is : (j k : ℕ) → Contains (j ∷ []) k → j ≡ k
first_is j k (zero, inside, is) = is
first_is j k (suc i, inside, is) = absurd (omega arith)

-- a place is one of those found exactly where it is among them
pub contains_among : (k : ℕ) (places : List (Option ℕ)) → is_among k places ≡ true → Contains (found places) k
unfolding found
contains_among k [] e = cc
contains_among k (None ∷ places) e = contains_among k places e
contains_among k (Some j ∷ places) e =
    elim (either (j == k) (is_among k places) e) [
      | inl same ↦ (0, omega arith, (Decides-eqb j k).0 same)
      | inr later ↦ Contains-append_right (j ∷ []) (found places) k (contains_among k places later)
    ]

pub among_contains : (k : ℕ) (places : List (Option ℕ)) → Contains (found places) k → is_among k places ≡ true
unfolding found
among_contains k [] (i, inside, is) = absurd (omega arith)
among_contains k (None ∷ places) h = among_contains k places h
among_contains k (Some j ∷ places) h =
    elim (Contains-append_cases (j ∷ []) (found places) k h) [
      | inl first ↦ left_holds (j == k) (is_among k places) ((Decides-eqb j k).1 (first_is j k first))
      | inr later ↦ right_holds (j == k) (is_among k places) (among_contains k places later)
    ]

-- an item that a test picks and that names the place k
pub record IsNamedBy {A : Type 0} (f : A → Option ℕ) (p : A → Bool) (xs : List A) (k : ℕ) (x : A) : Type 0 where
  pub among : Contains xs x
  pub picked : p x ≡ true
  pub names : f x ≡ Some k

here : {A : Type 0} (x : A) (xs : List A) → Contains (x ∷ xs) x
here x xs = (0, omega arith, refl)

named_later : {A : Type 0} (f : A → Option ℕ) (p : A → Bool) (y : A) (xs : List A) (k : ℕ)
    → (x : A) × IsNamedBy f p xs k x → (x : A) × IsNamedBy f p (y ∷ xs) k x
named_later f p y xs k (x, is) =
    (x, record { among = Contains-append_right (y ∷ []) xs x is.among; picked = is.picked; names = is.names })

by_pick : {A : Type 0} (f : A → Option ℕ) (p : A → Bool) (y : A) (xs : List A) (k : ℕ) (b : Bool) → p y ≡ b
    → (is_among k (map f (filter p xs)) ≡ true → (x : A) × IsNamedBy f p xs k x)
    → is_among k (map f (cond b (y ∷ filter p xs) (filter p xs))) ≡ true → (x : A) × IsNamedBy f p (y ∷ xs) k x
by_pick f p y xs k true picks rest e =
    elim (either (is_place k (f y)) (is_among k (map f (filter p xs))) e) [
      | inl now ↦ (y, record { among = here y xs; picked = picks; names = place_is (f y) k now })
      | inr later ↦ named_later f p y xs k (rest later)
    ]
by_pick f p y xs k false passes rest e = named_later f p y xs k (rest e)

-- a place that items which a test picks name is named by one of them
pub among_picked : {A : Type 0} (f : A → Option ℕ) (p : A → Bool) (xs : List A) (k : ℕ)
    → is_among k (map f (filter p xs)) ≡ true → (x : A) × IsNamedBy f p xs k x
among_picked f p [] k e = cc
among_picked f p (y ∷ xs) k e = by_pick f p y xs k (p y) refl (among_picked f p xs k) e

pub among_mapped : {A : Type 0} (f : A → Option ℕ) (xs : List A) (k : ℕ) → is_among k (map f xs) ≡ true
    → (x : A) × (f x ≡ Some k)
among_mapped f [] k e = cc
among_mapped f (y ∷ xs) k e =
    elim (either (is_place k (f y)) (is_among k (map f xs)) e) [
      | inl now ↦ (y, place_is (f y) k now)
      | inr later ↦ among_mapped f xs k later
    ]

-- a place that stands in the list is among it
pub among_at : (places : List (Option ℕ)) (i k : ℕ) → get_or places i None ≡ Some k → is_among k places ≡ true
among_at places i k e =
    elim (cases_lt i (length places)) [
      | inl inside ↦ list_any_at (is_place k) places i None inside (is_its_place (get_or places i None) k e)
      | inr past ↦
          let none : get_or places i None ≡ None = get_or_past places i None past in
          let no : ◌≡◌ {A = Option ℕ} None (Some k) = sym none ∙ e in cc
    ]

pub among_append : (k : ℕ) (xs ys : List (Option ℕ)) → is_among k (xs ++ ys) ≡ true
    → (is_among k xs ≡ true) ⊎ (is_among k ys ≡ true)
among_append k [] ys e = inr e
among_append k (x ∷ xs) ys e =
    elim (either (is_place k x) (is_among k (xs ++ ys)) e) [
      | inl now ↦ inl (left_holds (is_place k x) (is_among k xs) now)
      | inr later ↦ elim (among_append k xs ys later) [
        | inl first ↦ inl (right_holds (is_place k x) (is_among k xs) first)
        | inr second ↦ inr second
      ]
    ]
