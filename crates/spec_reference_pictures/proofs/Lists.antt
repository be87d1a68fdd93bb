-- Lists in order: appended, reversed, and one item more.
use Rattle.std.proofs.Common.{suc, ◌-◌, ◌<◌, List, [], ◌∷◌, ◌++◌, length, reverse, arith}
use Rattle.std.specs.List.{All, AllPairs}
use Rattle.std.proofs.lemmas.List.{get_or-reverse, length-reverse}
use Rattle.std.proofs.lemmas.List.Elements.{All-head, All-tail, All-append}
use Rattle.std.proofs.lemmas.List.Kept.{AllPairs-cons}

pub pairs_nil : {X : Type 0} (R : X → X → Type 0) → AllPairs R []
pairs_nil R i j d lt in_list = absurd (omega arith)

pub pairs_head : {X : Type 0} (R : X → X → Type 0) (x : X) (xs : List X) → AllPairs R (x ∷ xs) → All (R x) xs
pairs_head R x xs h k d lt = h 0 (suc k) d (omega arith) (omega arith)

pub pairs_tail : {X : Type 0} (R : X → X → Type 0) (x : X) (xs : List X) → AllPairs R (x ∷ xs) → AllPairs R xs
pairs_tail R x xs h i j d lt in_list = h (suc i) (suc j) d (omega arith) (omega arith)

pub pairs_append : {X : Type 0} (R : X → X → Type 0) (xs ys : List X) → AllPairs R xs → AllPairs R ys
    → All (λ x. All (R x) ys) xs → AllPairs R (xs ++ ys)
pairs_append R [] ys p q across = q
pairs_append R (x ∷ xs) ys p q across =
    AllPairs-cons R x (xs ++ ys)
    (All-append (R x) xs ys (pairs_head R x xs p) (All-head (λ x. All (R x) ys) x xs across))
    (pairs_append R xs ys (pairs_tail R x xs p) q (All-tail (λ x. All (R x) ys) x xs across))

pub All-reverse : {X : Type 0} (P : X → Type 0) (xs : List X) → All P xs → All P (reverse xs)
All-reverse P xs h k d lt =
    let lt' : k < length xs = rw (length-reverse xs) at lt in
    rw (get_or-reverse xs k d lt') (h (length xs - 1 - k) d (omega arith))

pub pairs_reverse : {X : Type 0} (R : X → X → Type 0) (xs : List X) → AllPairs R xs
    → AllPairs (λ x y. R y x) (reverse xs)
pairs_reverse R xs h i j d lt in_list =
    let j_in : j < length xs = rw (length-reverse xs) at in_list in
    let i_in : i < length xs = omega arith in
    rw (get_or-reverse xs i d i_in, get_or-reverse xs j d j_in)
    (h (length xs - 1 - j) (length xs - 1 - i) d (omega arith) (omega arith))
