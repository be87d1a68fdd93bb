-- What is stated of digests that are written.
use Rattle.std.proofs.Common.{◌≡◌, ℕ, ◌+◌, suc, false, List, [], ◌∷◌, ◌++◌, length, take, drop, Some, refl, sym, ap}
use Rattle.std.proofs.Common.{rules, ◌∙◌, append_assoc}
use Rattle.std.proofs.lemmas.Bool.{le-ltb}
use Rattle.std.specs.Prelude.{nat_lt}
use Rattle.std.proofs.lemmas.List.{drop-drop, drop_at, length-append, take_all, take_at}
use Rattle.spec_stated_hashes.specs.StatedHashes.{message_at, stated_hashes}

pub stated_first : (luma cb cr behind : List ℕ) → length luma ≡ 16 → length cb ≡ 16 → length cr ≡ 16
    → stated_hashes (132 ∷ 49 ∷ 0 ∷ (luma ++ (cb ++ (cr ++ behind)))) ≡ Some (luma ∷ cb ∷ cr ∷ [])
unfolding stated_hashes message_at
stated_first luma cb cr behind l c r =
    let all : List ℕ = luma ++ (cb ++ cr) in
    let whole : luma ++ (cb ++ (cr ++ behind)) ≡ all ++ behind =
    ap (λ (xs : List ℕ). luma ++ xs) (sym (append_assoc cb cr behind)) ∙ sym (append_assoc luma (cb ++ cr) behind) in
    let parts : length (cb ++ cr) ≡ 32 = length-append cb cr ∙ rw (c, r) refl in
    let size : length all ≡ 48 = length-append luma (cb ++ cr) ∙ rw (l, parts) refl in
    let total : length (all ++ behind) ≡ 48 + length behind = length-append all behind ∙ rw size refl in
    let long : nat_lt (suc (length (all ++ behind))) 49 ≡ false = le-ltb _ _ (rw total (search rules)) in
    let first : take 16 all ≡ luma = take_at luma (cb ++ cr) 16 l in
    let later : drop 16 all ≡ cb ++ cr = drop_at luma (cb ++ cr) 16 l in
    let second : take 16 (drop 16 all) ≡ cb = rw later (take_at cb cr 16 c) in
    let third : take 16 (drop 32 all) ≡ cr =
    ap (take 16) (sym (drop-drop 16 16 all) ∙ ap (drop 16) later ∙ drop_at cb cr 16 c)
    ∙ take_all 16 cr (rw r (search rules)) in
    rw (whole, long, take_at all behind 48 size, size, first, second, third) refl
