-- The formats of the pictures that are held.
use Rattle.std.proofs.Common.{◌≡◌, ℕ, zero, suc, Bool, true, false, List, [], ◌∷◌, ◌++◌, take, drop, sym, subst}
use Rattle.std.proofs.Common.{arith, if◌then◌else◌}
use Rattle.std.specs.List.{All, remove}
use Rattle.std.proofs.lemmas.List.Elements.{All-append, All-drop, All-take}
use Rattle.picture_buffer.specs.Pictures.{HasFormat, HeldPicture}

one : (p : HeldPicture) → HasFormat p → All HasFormat (p ∷ [])
one p h zero d lt = h
one p h (suc k) d lt = absurd (omega (arith, lt))

-- one more picture, or none for want of memory
pub formats_more : (pushed : Bool) (old new : List HeldPicture) (p : HeldPicture)
    → new ≡ (if pushed then old ++ p ∷ [] else old) → All HasFormat old → HasFormat p → All HasFormat new
formats_more true old new p e all h = subst (All HasFormat) (sym e) (All-append HasFormat old (p ∷ []) all (one p h))
formats_more false old new p e all h = subst (All HasFormat) (sym e) all

-- one fewer
pub formats_fewer : (old new : List HeldPicture) (i : ℕ) → new ≡ remove old i → All HasFormat old → All HasFormat new
formats_fewer old new i e all =
    subst (All HasFormat) (sym e)
    (All-append HasFormat (take i old) (drop (suc i) old) (All-take HasFormat i old all)
    (All-drop HasFormat (suc i) old all))
