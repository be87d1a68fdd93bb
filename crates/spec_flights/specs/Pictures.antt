-- The pictures of a flight by those of their coding tree units that are known, also where a rule is broken in one of
-- them, and the decoded picture buffer before each of them (8.1.3, C.5.2.3).
use Rattle.std.specs.Prelude.{ℕ, zero, suc, List, [], ◌∷◌, ◌++◌, Option, Some, None, slice_get}
use Rattle.spec_known_units.specs.PlanTypes.{PicturePlan}
use Rattle.spec_known_units.specs.Known.{known_units}
use Rattle.spec_decoder.specs.SpecPictureBuild.{DecodedPicture}
use Rattle.spec_decoder.specs.SpecDecodedPictures.{DecodedUnits, no_units, units_decoded, units_folded}
use Rattle.spec_decoder.specs.Decoder.{BufferPicture, kept_as, kept_from, pictures_in}

-- pictures that are decoded together, in decoding order, and the decoded picture buffer before the first of them
pub record PlannedFlight : Type 0 where
  pub pictures : List PicturePlan
  pub buffer : List BufferPicture

-- what the known units of a picture make of it, by the pictures of the buffer before it
abbrev pub known_folded : List DecodedPicture → PicturePlan → DecodedUnits
known_folded buffer p = units_folded buffer p (known_units p)

-- the picture that they make: where no rule is broken in it, the decoded picture
abbrev pub known_decoded : List DecodedPicture → PicturePlan → DecodedPicture
known_decoded buffer p = units_decoded buffer p (known_units p)

-- the buffer behind a picture: it stands behind the last, and those stay whose places are kept
unfoldable pub buffer_behind : List BufferPicture → Option PicturePlan → List BufferPicture
buffer_behind buffer None = buffer
buffer_behind buffer (Some p) =
    kept_from p.outputs.kept 0 (buffer ++ kept_as p (known_decoded (pictures_in buffer) p) ∷ [])

-- the buffer before the picture at a place of the flight
unfoldable pub buffer_before : PlannedFlight → ℕ → List BufferPicture
buffer_before f zero = f.buffer
buffer_before f (suc k) = buffer_behind (buffer_before f k) (slice_get f.pictures k)

-- its decoded pictures
abbrev pub pictures_before : PlannedFlight → ℕ → List DecodedPicture
pictures_before f k = pictures_in (buffer_before f k)

-- what the known units of the picture at a place make of it; where there is none, nothing
abbrev pub folded_in : List DecodedPicture → Option PicturePlan → DecodedUnits
folded_in buffer None = no_units
folded_in buffer (Some p) = known_folded buffer p

unfoldable pub folded_at : PlannedFlight → ℕ → DecodedUnits
folded_at f k = folded_in (pictures_before f k) (slice_get f.pictures k)
