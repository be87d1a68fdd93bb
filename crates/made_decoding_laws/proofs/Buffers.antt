-- Buffers whose pictures are those drawn of some numbers.
use Rattle.std.proofs.Common.{ℕ, zero, suc, ◌<◌, List, [], ◌∷◌, ◌++◌, length, map, refl, sym, subst}
use Rattle.std.proofs.Common.{arith}
use Rattle.std.specs.Prelude.{Option}
use Rattle.spec_picture_build.specs.References.{DecodedPicture}
use Rattle.made_laws.specs.Outputs.{number_at}
use Rattle.made_picture_laws.specs.Pictures.{HasDrawn, IsDrawn}
use Rattle.made_decoding_laws.specs.References.{planes_of}
use Rattle.made_decoding_laws.specs.Turns.{AreDrawn, next_at, pictures_at}

-- one more picture
pub one_more : (seed j : ℕ) (numbers : List ℕ) (buffer : List DecodedPicture) (picture : DecodedPicture)
    → AreDrawn seed numbers buffer → IsDrawn (planes_of seed j) picture
    → AreDrawn seed (numbers ++ j ∷ []) (buffer ++ picture ∷ [])
one_more seed j [] [] picture are is = (is, tt)
one_more seed j [] (a ∷ buffer) picture are is = absurd are
one_more seed j (n ∷ numbers) [] picture are is = absurd are
one_more seed j (n ∷ numbers) (a ∷ buffer) picture are is = (are.0, one_more seed j numbers buffer picture are.1 is)

shifted : (seed k place : ℕ) (a : DecodedPicture) (buffer : List DecodedPicture)
    → HasDrawn (planes_of seed k) buffer place → HasDrawn (planes_of seed k) (a ∷ buffer) (suc place)
shifted seed k place a buffer has = record { picture = has.picture; there = has.there; drawn = has.drawn }

-- the picture at a place
pub drawn_there : (seed : ℕ) (numbers : List ℕ) (buffer : List DecodedPicture) (place : ℕ)
    → AreDrawn seed numbers buffer → place < length numbers
    → HasDrawn (planes_of seed (number_at numbers place)) buffer place
drawn_there seed [] buffer place are inside = absurd (omega arith)
drawn_there seed (n ∷ numbers) [] place are inside = absurd are
drawn_there seed (n ∷ numbers) (a ∷ buffer) zero are inside =
    record { picture = a; there = refl; drawn = are.0 }
drawn_there seed (n ∷ numbers) (a ∷ buffer) (suc place) are inside =
    shifted seed (number_at numbers place) place a buffer
    (drawn_there seed numbers buffer place are.1 (omega arith))

-- places that are inside
abbrev pub AreInside : List ℕ → ℕ → Type 0
AreInside [] count = Unit {0}
AreInside (place ∷ places) count = (place < count) × AreInside places count

-- the pictures at some places
pub kept_drawn : (seed : ℕ) (numbers : List ℕ) (buffer : List DecodedPicture) (places : List ℕ)
    → AreDrawn seed numbers buffer → AreInside places (length numbers)
    → AreDrawn seed (map (number_at numbers) places) (pictures_at buffer places)
unfolding pictures_at
kept_drawn seed numbers buffer [] are inside = tt
kept_drawn seed numbers buffer (place ∷ places) are inside =
    let has : HasDrawn (planes_of seed (number_at numbers place)) buffer place =
    drawn_there seed numbers buffer place are inside.0 in
    subst (λ (o : Option DecodedPicture). AreDrawn seed (number_at numbers place ∷ map (number_at numbers) places)
    (next_at o (pictures_at buffer places))) (sym has.there)
    (has.drawn, kept_drawn seed numbers buffer places are inside.1)
