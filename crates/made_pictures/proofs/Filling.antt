-- Planes that are filled sample by sample.
use Rattle.std.proofs.Common.{◌≡◌, ℕ, ◌+◌, ◌*◌, ◌/◌, ◌%◌, ◌<◌, ◌≤◌, List, [], ◌∷◌, ◌++◌, length, drop, map}
use Rattle.std.proofs.Common.{refl, sym, ap, ◌∙◌, arith, append_assoc}
use Rattle.std.specs.Prelude.{get_or}
use Rattle.std.specs.List.{range_with_len}
use Rattle.std.proofs.lemmas.List.{drop_more, drop_all}
use Rattle.std.proofs.lemmas.List.FromFn.{map-range_with_len_more}
use Rattle.spec_made.specs.Planes.{plane_of, mean_of}

-- the samples up to one
abbrev pub filled : ℕ → (ℕ → ℕ → ℕ) → ℕ → List ℕ
filled width sample k = map (λ i. sample (i % width) (i / width)) (range_with_len 0 k)

pub filled_step : (width : ℕ) (sample : ℕ → ℕ → ℕ) (items more : List ℕ) (k value : ℕ) → items ≡ filled width sample k
    → value ≡ sample (k % width) (k / width) → more ≡ items ++ value ∷ [] → more ≡ filled width sample (k + 1)
filled_step width sample items more k value is is_value is_more =
    let zero_on : 0 + k ≡ k = omega arith in
    is_more ∙ ap (λ l. l ++ value ∷ []) is
    ∙ ap (λ v. filled width sample k ++ v ∷ []) is_value
    ∙ sym (map-range_with_len_more (λ i. sample (i % width) (i / width)) 0 k k zero_on)

pub plane_is : (side width : ℕ) (sample : ℕ → ℕ → ℕ) (items : List ℕ) (k count : ℕ) → k ≤ count → count ≤ k
    → count ≡ 48 * side * side → width ≡ 8 * side → items ≡ filled width sample k → items ≡ plane_of side sample
unfolding plane_of
plane_is side width sample items k count low high all wide is =
    let e : k ≡ 48 * side * side = omega (arith, low, high, all) in
    is ∙ ap (λ n. filled width sample n) e ∙ ap (λ w. filled w sample (48 * side * side)) wide

-- ---- means

pub mean_step : (first second items more : List ℕ) (k value : ℕ) → k < length first → length first ≡ length second
    → value ≡ (get_or first k 0 + get_or second k 0 + 1) / 2 → more ≡ items ++ value ∷ []
    → items ++ mean_of (drop k first) (drop k second) ≡ mean_of first second
    → more ++ mean_of (drop (k + 1) first) (drop (k + 1) second) ≡ mean_of first second
mean_step first second items more k value inside same is is_more told =
    let a = drop_more first k 0 inside in
    let b = drop_more second k 0 (omega (arith, same)) in
    let rest : List ℕ = mean_of (drop (k + 1) first) (drop (k + 1) second) in
    ap (λ l. l ++ rest) is_more ∙ append_assoc items (value ∷ []) rest
    ∙ ap (λ v. items ++ v ∷ rest) is
    ∙ ap (λ l. items ++ mean_of (get_or first k 0 ∷ drop (k + 1) first) l) (sym b)
    ∙ ap (λ l. items ++ mean_of l (drop k second)) (sym a) ∙ told

no_more : (items : List ℕ) → items ++ [] ≡ items
no_more [] = refl
no_more (x ∷ items) = ap (λ l. x ∷ l) (no_more items)

pub mean_done : (first second items : List ℕ) (k : ℕ) → length first ≤ k
    → items ++ mean_of (drop k first) (drop k second) ≡ mean_of first second → items ≡ mean_of first second
mean_done first second items k past told =
    let none : mean_of (drop k first) (drop k second) ≡ [] =
    ap (λ l. mean_of l (drop k second)) (drop_all k first past) in
    sym (no_more items) ∙ ap (λ l. items ++ l) (sym none) ∙ told
