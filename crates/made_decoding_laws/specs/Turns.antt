-- The pictures of a stream that is made, decoded one behind the other (8.1.3, C.5.2).
use Rattle.std.specs.Prelude.{◌≡◌, ℕ, zero, suc, List, [], ◌∷◌, ◌++◌, map, slice_get, Option, Some, None}
use Rattle.std.specs.Prelude.{Result, Ok, Err}
use Rattle.plan_types.specs.declared.picture_plan.PicturePlan.{PicturePlan}
use Rattle.spec_picture_trees.specs.Picture.{PictureBroken}
use Rattle.spec_picture_build.specs.References.{DecodedPicture}
use Rattle.spec_decoder.specs.SpecDecodedPictures.{picture_decoded}
use Rattle.made_laws.specs.Outputs.{number_at}
use Rattle.made_laws.specs.Streams.{plan_of}
use Rattle.made_picture_laws.specs.Pictures.{IsDecodedAs, IsDrawn}
use Rattle.made_decoding_laws.specs.References.{planes_of}

-- the pictures at these places of a buffer. A place behind the last has none
abbrev pub next_at : Option DecodedPicture → List DecodedPicture → List DecodedPicture
next_at None later = later
next_at (Some picture) later = picture ∷ later

unfoldable pub pictures_at : List DecodedPicture → List ℕ → List DecodedPicture
pictures_at buffer [] = []
pictures_at buffer (place ∷ places) = next_at (slice_get buffer place) (pictures_at buffer places)

-- the buffer that a decoded picture leaves: those that its plan keeps of the pictures before it and of itself
abbrev pub left_behind : PicturePlan → List DecodedPicture → Result DecodedPicture PictureBroken
    → Result (List DecodedPicture) PictureBroken
left_behind p buffer (Err broken) = Err broken
left_behind p buffer (Ok picture) = Ok (pictures_at (buffer ++ picture ∷ []) p.outputs.kept)

abbrev pub behind : PicturePlan → Result (List DecodedPicture) PictureBroken
    → Result (List DecodedPicture) PictureBroken
behind p (Err broken) = Err broken
behind p (Ok buffer) = left_behind p buffer (picture_decoded buffer p)

-- the buffer before the picture of a number in the stream of a seed, where those before it are decoded in turn, or the
-- first rule that one of them breaks
unfoldable pub buffer_before : ℕ → ℕ → Result (List DecodedPicture) PictureBroken
buffer_before seed zero = Ok []
buffer_before seed (suc j) = behind (plan_of seed j) (buffer_before seed j)

-- the numbers of the pictures that it has
unfoldable pub numbers_before : ℕ → ℕ → List ℕ
numbers_before seed zero = []
numbers_before seed (suc j) = map (number_at (numbers_before seed j ++ j ∷ [])) (plan_of seed j).outputs.kept

-- a buffer whose pictures are those drawn of these numbers
abbrev pub AreDrawn : ℕ → List ℕ → List DecodedPicture → Type 0
AreDrawn seed [] [] = Unit {0}
AreDrawn seed [] (picture ∷ buffer) = ⊥
AreDrawn seed (j ∷ numbers) [] = ⊥
AreDrawn seed (j ∷ numbers) (picture ∷ buffer) = IsDrawn (planes_of seed j) picture × AreDrawn seed numbers buffer

-- the picture of a number is decoded as it is drawn, by the buffer that those before it leave, which has the pictures
-- drawn of their numbers
pub record IsDecodedInTurn (seed j : ℕ) : Type 0 where
  pub buffer : List DecodedPicture
  pub before : buffer_before seed j ≡ Ok buffer
  pub drawn : AreDrawn seed (numbers_before seed j) buffer
  pub decoded : IsDecodedAs buffer (plan_of seed j) (planes_of seed j)
