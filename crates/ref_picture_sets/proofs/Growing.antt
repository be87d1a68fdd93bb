-- Lists that a loop adds to, one step further.
use Rattle.std.proofs.Common.{ℕ, ◌≡◌, ◌∙◌, ◌+◌, Bool, true, false, cond, List, [], ◌∷◌, ◌++◌, map, arith, ap, sym}
use Rattle.std.proofs.Common.{append-nil}
use Rattle.std.specs.List.{filter, range_with_len}
use Rattle.std.proofs.lemmas.List.{map-append, length-map}
use Rattle.std.proofs.lemmas.List.FromFn.{length-map-range_with_len, map-range_with_len_more}

-- a list by places, one place further
pub places_more : {X : Type 0} (f : ℕ → X) (n : ℕ) (xs ys : List X) (x : X) → xs ≡ map f (range_with_len 0 n) → x ≡ f n
    → ys ≡ xs ++ x ∷ []
    → ys ≡ map f (range_with_len 0 (n + 1))
places_more f n xs ys x so_far next pushed =
    let more = map-range_with_len_more f 0 n n (omega arith) in
    pushed ∙ ap (λ zs. zs ++ x ∷ []) so_far ∙ ap (λ z. map f (range_with_len 0 n) ++ z ∷ []) next ∙ sym more

-- what is made of the items that a test picks, one item further, which it picks or doesn't
mapped_more : {A X : Type 0} (f : A → X) (p : A → Bool) (before after : List A) (a : A)
    → filter p after ≡ filter p before ++ cond (p a) (a ∷ []) [] → p a ≡ true
    → map f (filter p after) ≡ map f (filter p before) ++ f a ∷ []
mapped_more f p before after a step holds =
    ap (map f) (step ∙ ap (λ b. filter p before ++ cond b (a ∷ []) []) holds) ∙ map-append f (filter p before) (a ∷ [])

mapped_same : {A X : Type 0} (f : A → X) (p : A → Bool) (before after : List A) (a : A)
    → filter p after ≡ filter p before ++ cond (p a) (a ∷ []) [] → p a ≡ false
    → map f (filter p after) ≡ map f (filter p before)
mapped_same f p before after a step fails =
    ap (map f) (step ∙ ap (λ b. filter p before ++ cond b (a ∷ []) []) fails ∙ append-nil (filter p before))

-- a list that a loop adds them to
pub picked : {A X : Type 0} (f : A → X) (p : A → Bool) (before after : List A) (a : A)
    → filter p after ≡ filter p before ++ cond (p a) (a ∷ []) [] → p a ≡ true
    → (xs ys : List X) (x : X) → xs ≡ map f (filter p before) → x ≡ f a → ys ≡ xs ++ x ∷ []
    → ys ≡ map f (filter p after)
picked f p before after a step holds xs ys x so_far next pushed =
    pushed ∙ ap (λ zs. zs ++ x ∷ []) so_far ∙ ap (λ z. map f (filter p before) ++ z ∷ []) next
    ∙ sym (mapped_more f p before after a step holds)

pub unpicked : {A X : Type 0} (f : A → X) (p : A → Bool) (before after : List A) (a : A)
    → filter p after ≡ filter p before ++ cond (p a) (a ∷ []) [] → p a ≡ false
    → (xs : List X) → xs ≡ map f (filter p before) → xs ≡ map f (filter p after)
unpicked f p before after a step fails xs so_far = so_far ∙ sym (mapped_same f p before after a step fails)

-- the lengths of what is made item by item
pub ruleset lengths = (length-map, length-map-range_with_len)
