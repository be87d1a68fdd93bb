-- Neighbours, one after the other.
use Rattle.std.proofs.Common.{◌≡◌, ℕ, suc, ◌+◌, ◌<◌, ◌≤◌, List, [], ◌∷◌, ◌++◌, Option, Some, None, length, get_or}
use Rattle.std.proofs.Common.{take}
use Rattle.std.proofs.Common.{drop, set, sym, ap, ◌∙◌, add-one, drop-cons, append_assoc, append-nil}
use Rattle.std.proofs.lemmas.List.{take_more_set, drop_all}
use Rattle.spec_intra_prediction.specs.Substitution.{first_available, sample_or, following}

first_at : (otherwise k : ℕ) (edge : List (Option ℕ)) (d : Option ℕ) → k < length edge
    → first_available otherwise (drop k edge) ≡ first_available otherwise (get_or edge k d ∷ drop (suc k) edge)
first_at otherwise k edge d lt = ap (first_available otherwise) (drop-cons edge k d lt)

pub first_here : (otherwise k v : ℕ) (edge : List (Option ℕ)) (d : Option ℕ) → k < length edge
    → get_or edge k d ≡ Some v → first_available otherwise (drop k edge) ≡ v
unfolding first_available
first_here otherwise k v edge d lt is =
    first_at otherwise k edge d lt ∙ ap (λ s. first_available otherwise (s ∷ drop (suc k) edge)) is

pub first_later : (otherwise k : ℕ) (edge : List (Option ℕ)) (d : Option ℕ) → k < length edge → get_or edge k d ≡ None
    → first_available otherwise (drop k edge) ≡ first_available otherwise (drop (k + 1) edge)
unfolding first_available
first_later otherwise k edge d lt is =
    first_at otherwise k edge d lt ∙ ap (λ s. first_available otherwise (s ∷ drop (suc k) edge)) is
    ∙ ap (λ n. first_available otherwise (drop n edge)) (sym (add-one k))

pub first_over : (otherwise k : ℕ) (edge : List (Option ℕ)) → length edge ≤ k
    → first_available otherwise (drop k edge) ≡ otherwise
unfolding first_available
first_over otherwise k edge le = ap (first_available otherwise) (drop_all k edge le)

pub following_more : (former k v : ℕ) (samples whole : List ℕ) (edge : List (Option ℕ)) (d : Option ℕ) →
    k < length edge → k < length samples →
    v ≡ sample_or (get_or edge k d) former → take k samples ++ following former (drop k edge) ≡ whole →
    take (k + 1) (set samples k v) ++ following v (drop (k + 1) edge) ≡ whole
unfolding following
following_more former k v samples whole edge d lt room is told =
    let next : following former (drop k edge) ≡ v ∷ following v (drop (suc k) edge) =
    ap (following former) (drop-cons edge k d lt) ∙ ap (λ (s : ℕ). s ∷ following s (drop (suc k) edge)) (sym is) in
    ap (λ (xs : List ℕ). xs ++ following v (drop (k + 1) edge)) (take_more_set samples k v room)
    ∙ append_assoc (take k samples) (v ∷ []) (following v (drop (k + 1) edge))
    ∙ ap (λ (n : ℕ). take k samples ++ v ∷ following v (drop n edge)) (add-one k)
    ∙ ap (λ (xs : List ℕ). take k samples ++ xs) (sym next)
    ∙ told

pub following_over : (former k : ℕ) (samples whole : List ℕ) (edge : List (Option ℕ)) → length edge ≤ k
    → take k samples ++ following former (drop k edge) ≡ whole → take k samples ≡ whole
unfolding following
following_over former k samples whole edge le told =
    sym (ap (λ (xs : List ℕ). take k samples ++ xs) (ap (following former) (drop_all k edge le))
    ∙ append-nil (take k samples))
    ∙ told
