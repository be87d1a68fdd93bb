-- Pictures that are decoded one after the other (8.1.3, C.5.2.3).
use Rattle.std.specs.Prelude.{◌≡◌, List, [], ◌∷◌, ◌++◌, Option, Some, None, Ok, IsErrAnd}
use Rattle.hv_base.specs.declared.refusal.Stop.{Stop}
use Rattle.plan_types.specs.declared.picture_plan.PicturePlan.{PicturePlan}
use Rattle.picture_buffer.specs.Pictures.{HeldPicture}
use Rattle.flight_facts.specs.PictureBuildPictures.{decoded_of}
use Rattle.spec_picture_build.specs.References.{DecodedPicture}
use Rattle.row_trees.specs.SpecDecodedPictures.{picture_decoded}
use Rattle.row_trees.specs.SpecDecoder.{told}
use Rattle.row_trees.specs.SpecFlights.{staying}

-- the pictures of the buffer behind a picture: it stands behind the last, and those stay whose places are kept
abbrev pub buffer_with : PicturePlan → List DecodedPicture → DecodedPicture → List DecodedPicture
buffer_with p buffer picture = staying p.outputs.kept 0 (buffer ++ picture ∷ [])

-- of planned pictures, from a buffer on: each of the decoded ones is what its plan gives by the buffer before it; they
-- are all, and there is no fault, or the data of the next break the rule that the fault tells
abbrev pub Decodes : List DecodedPicture → List PicturePlan → List HeldPicture → Option Stop → Type 0
Decodes buffer [] [] fault = fault ≡ None
Decodes buffer [] (picture ∷ pictures) fault = ⊥
Decodes buffer (p ∷ plan) [] fault = IsErrAnd (picture_decoded buffer p) (λ broken. fault ≡ Some (told broken))
Decodes buffer (p ∷ plan) (picture ∷ pictures) fault =
    (picture_decoded buffer p ≡ Ok (decoded_of picture))
    × Decodes (buffer_with p buffer (decoded_of picture)) plan pictures fault
