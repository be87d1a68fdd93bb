-- The elements that a function gives of a list, as far as the list was gone through.
use Rattle.std.proofs.Common.{◌≡◌, ℕ, zero, suc, ◌+◌, ◌<◌, ◌≤◌, List, [], ◌∷◌, length, take, get_or, Option, Some}
use Rattle.std.proofs.Common.{None}
use Rattle.std.proofs.Common.{filter_map, refl, ap, ◌∙◌, arith}
use Rattle.std.specs.List.{cons_option}
use Rattle.std.proofs.lemmas.List.{get_or-take}

step : {Y : Type 0} (o : Option Y) (front whole : List Y) (m e : Y)
    → (length front < length whole) × (get_or whole (length front) e ≡ m)
    → (length (cons_option o front) < length (cons_option o whole))
    × (get_or (cons_option o whole) (length (cons_option o front)) e ≡ m)
step None front whole m e told = told
step (Some y) front whole m e (less, is) = (omega arith, is)

first : {Y : Type 0} (o : Option Y) (whole : List Y) (m e : Y) → o ≡ Some m
    → (0 < length (cons_option o whole)) × (get_or (cons_option o whole) 0 e ≡ m)
first None whole m e is = cc
first (Some y) whole m e is = (omega arith, cc)

-- what is given of the element at place k stands behind what is given of those before it
pub given_at : {X Y : Type 0} (h : X → Option Y) (xs : List X) (k : ℕ) (d : X) (m e : Y) → k < length xs
    → h (get_or xs k d) ≡ Some m
    → (length (filter_map h (take k xs)) < length (filter_map h xs))
    × (get_or (filter_map h xs) (length (filter_map h (take k xs))) e ≡ m)
given_at h [] k d m e lt is = absurd (omega arith)
given_at h (x ∷ xs) zero d m e lt is = first (h x) (filter_map h xs) m e is
given_at h (x ∷ xs) (suc k) d m e lt is =
    step (h x) (filter_map h (take k xs)) (filter_map h xs) m e (given_at h xs k d m e (omega arith) is)

-- one more element
more : {Y : Type 0} (o p : Option Y) (rest part : List Y) → length rest ≡ length (cons_option p part)
    → length (cons_option o rest) ≡ length (cons_option p (cons_option o part))
more None p rest part e = e
more (Some y) None rest part e = omega arith
more (Some y) (Some z) rest part e = omega arith

pub count_more : {X Y : Type 0} (h : X → Option Y) (xs : List X) (k : ℕ) (d : X) → k < length xs
    → length (filter_map h (take (suc k) xs)) ≡ length (cons_option (h (get_or xs k d)) (filter_map h (take k xs)))
count_more h [] k d lt = absurd (omega arith)
count_more h (x ∷ xs) zero d lt = refl
count_more h (x ∷ xs) (suc k) d lt =
    more (h x) (h (get_or xs k d)) (filter_map h (take (suc k) xs)) (filter_map h (take k xs))
    (count_more h xs k d (omega arith))

none_taken : {X : Type 0} (n : ℕ) → take n (let none : List X = [] in none) ≡ []
none_taken zero = refl
none_taken (suc n) = refl

-- one more element, that gives something or doesn't
pub count_some : {X Y : Type 0} (h : X → Option Y) (xs : List X) (k : ℕ) (d : X) (m : Y) → k < length xs
    → h (get_or xs k d) ≡ Some m
    → length (filter_map h (take (k + 1) xs)) ≡ length (filter_map h (take k xs)) + 1
count_some h xs k d m lt is =
    let e : k + 1 ≡ suc k = omega arith in
    let c = count_more h xs k d lt in
    rw e (c ∙ ap (λ o. length (cons_option o (filter_map h (take k xs)))) is ∙ omega arith)

pub count_none : {X Y : Type 0} (h : X → Option Y) (xs : List X) (k : ℕ) (d : X) → k < length xs
    → h (get_or xs k d) ≡ None
    → length (filter_map h (take (k + 1) xs)) ≡ length (filter_map h (take k xs))
count_none h xs k d lt is =
    let e : k + 1 ≡ suc k = omega arith in
    let c = count_more h xs k d lt in
    rw e (c ∙ ap (λ o. length (cons_option o (filter_map h (take k xs)))) is)

take_of_take : {X : Type 0} (xs : List X) (k n : ℕ) → k ≤ n → take k (take n xs) ≡ take k xs
take_of_take [] k n le = ap (λ ys. take k ys) (none_taken n)
take_of_take (x ∷ xs) zero n le = refl
take_of_take (x ∷ xs) (suc k) zero le = absurd (omega arith)
take_of_take (x ∷ xs) (suc k) (suc n) le = ap (λ ys. x ∷ ys) (take_of_take xs k n (omega arith))

few_taken : {X : Type 0} (xs : List X) (k n : ℕ) → k < n → k < length xs → k < length (take n xs)
few_taken [] k n le lt = absurd (omega arith)
few_taken (x ∷ xs) k zero le lt = absurd (omega arith)
few_taken (x ∷ xs) zero (suc n) le lt = omega arith
few_taken (x ∷ xs) (suc k) (suc n) le lt = let h = few_taken xs k n (omega arith) (omega arith) in omega arith

-- the same, of the first n elements
pub given_among : {X Y : Type 0} (h : X → Option Y) (xs : List X) (k n : ℕ) (d : X) (m e : Y) → k < n → k < length xs
    → h (get_or xs k d) ≡ Some m
    → (length (filter_map h (take k xs)) < length (filter_map h (take n xs)))
    × (get_or (filter_map h (take n xs)) (length (filter_map h (take k xs))) e ≡ m)
given_among h xs k n d m e le lt is =
    let told = given_at h (take n xs) k d m e (few_taken xs k n le lt) (ap h (get_or-take n xs k d le) ∙ is) in
    rw (take_of_take xs k n (omega arith)) at told
