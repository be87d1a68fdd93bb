-- The hash of a plane whose samples have eight bits.
use Rattle.std.proofs.Common.{◌≡◌, ℕ, suc, ◌%◌, ◌<◌, List, [], ◌∷◌, map, refl, sym, ap, ◌∙◌, arith}
use Rattle.std.specs.Prelude.{Option, get_or}
use Rattle.std.specs.Iterator.{Drains}
use Rattle.std.proofs.lemmas.Iterator.{YieldsList, items_from_drains}
use Rattle.md5.specs.Md5.{md5}
use Rattle.hash_sei.specs.PlaneHash.{plane_hash, picture_data}

same_map : (xs : List ℕ) → map (λ x. x) xs ≡ xs
same_map [] = refl
same_map (x ∷ xs) = ap (λ l. x ∷ l) (same_map xs)

-- what an iterator that yields a list gives until it ends
pub all_given : {S : Type 0} {steps : S → Option ℕ → S → Type 0} {s : S} (given items : List ℕ) → Drains steps s given
    → YieldsList steps (λ x. x) s (map (λ x. x) items) → given ≡ items
all_given given items d y =
    sym (same_map given) ∙ items_from_drains given (d.1.0, d.1.1, λ _. (d.0, d.1.2)) y ∙ same_map items

-- samples of eight bits are bytes
bytes_are : (samples : List ℕ) → ((i : ℕ) → get_or samples i 0 < 256) → picture_data 8 samples ≡ samples
bytes_are [] small = refl
bytes_are (x ∷ samples) small =
    let here : x < 256 = small 0 in
    let e : x % 256 ≡ x = omega (arith, here) in
    ap (λ y. y ∷ picture_data 8 samples) e ∙ ap (λ l. x ∷ l) (bytes_are samples (λ i. small (suc i)))

pub hash_is : (given samples hash : List ℕ) → ((i : ℕ) → get_or samples i 0 < 256) → given ≡ samples
    → hash ≡ plane_hash 8 given → hash ≡ md5 samples
unfolding plane_hash
hash_is given samples hash small is told =
    told ∙ ap (λ l. md5 (picture_data 8 l)) is ∙ ap md5 (bytes_are samples small)
