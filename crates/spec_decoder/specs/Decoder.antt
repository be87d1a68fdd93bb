-- The sequential decoder, as a function of the bytes.
use Rattle.std.specs.Prelude.{◌≡◌, ℕ, suc, ℤ, Bool, List, [], ◌∷◌, ◌++◌, length, map, slice_get, Option, Some, None}
use Rattle.std.specs.Prelude.{Result, Ok, Err, ◌==◌, if◌then◌else◌}
use Rattle.std.specs.List.{concat, list_any}
use Rattle.hv_base.specs.declared.fault.Fault.{Fault}
use Rattle.hv_base.specs.declared.refusal.Stop.{Stop}
use Rattle.hv_base.specs.declared.refusal.Stop.TheVariants as stop
use Rattle.hv_base.specs.Stops.{stopped_at}
use Rattle.spec_picture_plan.specs.PlanTypes.{PicturePlan}
use Rattle.spec_picture_plan.specs.Planned.{Planned, planned_of}
use Rattle.spec_decoded_pictures.specs.SpecPictureTrees.{PictureBroken, Progress, picture_read}
use Rattle.spec_decoded_pictures.specs.SpecPictureTrees.{addresses, picture_units, shared_units, with_segments}
use Rattle.spec_decoded_pictures.specs.Decoded.{picture_decoded}
use Rattle.spec_decoded_pictures.specs.SpecPictureBuild.{DecodedPicture}
use Rattle.spec_decoder.specs.declared.form.Form.{Form}
use Rattle.spec_decoder.specs.Hashes.{first_mismatch}
use Rattle.spec_decoder.specs.Output.{OutPicture, written}

-- a picture of the decoded picture buffer: PicOrderCntVal, the nal_unit_type of its slices, and the decoded picture
pub record BufferPicture : Type 0 where
  pub poc : ℤ
  pub nal_type : ℕ
  pub picture : DecodedPicture

-- the pictures in output order, and the broken rule or the limit that stops decoding, if any does
pub record Decoded : Type 0 where
  pub pictures : List OutPicture
  pub stop : Option Stop

-- a picture of the buffer as it goes out
abbrev pub picture_out : BufferPicture → OutPicture
picture_out b = record {
  poc = b.poc;
  nal_type = b.nal_type;
  format = b.picture.format;
  samples = b.picture.samples;
}

-- the decoded pictures of a buffer
abbrev pub pictures_in : List BufferPicture → List DecodedPicture
pictures_in buffer = map (λ b. b.picture) buffer

-- what is broken or met in the data of a picture
abbrev pub told : PictureBroken → Stop
told broken = stopped_at broken.nal (Some broken.ctu) broken.breach

-- a decoded picture as the buffer has it
abbrev pub kept_as : PicturePlan → DecodedPicture → BufferPicture
kept_as p picture = record { poc = p.poc; nal_type = p.kind.nal_type; picture = picture }

-- a decoded picture, by the first hash stated for it that its planes haven't, if there is one
abbrev pub hashes_judged : PicturePlan → DecodedPicture → Option Fault → Result BufferPicture Stop
hashes_judged p picture None = Ok (kept_as p picture)
hashes_judged p picture (Some fault) = Err (stop.Fault fault)

-- the first stated hash that the planes of a picture haven't, where hashes are compared
abbrev pub compared : Bool → PicturePlan → DecodedPicture → Option Fault
compared hash p picture = if hash then first_mismatch picture p.hashes else None

-- a picture, or what its data break with its place; where hashes are compared, they are behind its data
abbrev pub decoded_data : Bool → PicturePlan → Result DecodedPicture PictureBroken → Result BufferPicture Stop
decoded_data hash p (Ok picture) = hashes_judged p picture (compared hash p picture)
decoded_data hash p (Err broken) = Err (told broken)

-- a picture by the buffer before it, or what is broken or met in it first
unfoldable pub decoded_picture : Bool → List BufferPicture → PicturePlan → Result BufferPicture Stop
decoded_picture hash buffer p = decoded_data hash p (picture_decoded (pictures_in buffer) p)

-- the pictures at these places of a buffer, one after the other, as they go out. A place behind the last has none
abbrev pub next_out : Option BufferPicture → List OutPicture → List OutPicture
next_out None later = later
next_out (Some picture) later = picture_out picture ∷ later

-- the pictures that go out at these places, one after the other
unfoldable pub out_at : List BufferPicture → List ℕ → List OutPicture
out_at buffer [] = []
out_at buffer (place ∷ places) = next_out (slice_get buffer place) (out_at buffer places)

-- whether a place is one of these
abbrev pub is_among : List ℕ → ℕ → Bool
is_among places place = list_any (λ other. other == place) places

-- of pictures the first of which has this place, those whose places stay
unfoldable pub kept_from : List ℕ → ℕ → List BufferPicture → List BufferPicture
kept_from places place [] = []
kept_from places place (picture ∷ later) =
    if is_among places place then picture ∷ kept_from places (suc place) later else kept_from places (suc place) later

-- pictures that go out first, and what is decoded behind that
abbrev pub put_out : List OutPicture → Decoded → Decoded
put_out pictures later = record { pictures = pictures ++ later.pictures; stop = later.stop }

-- nothing more goes out
abbrev pub ended : Option Stop → Decoded
ended stop = record { pictures = []; stop = stop }

-- behind a picture that stands in the buffer with those before it: what goes out then, and the buffer that it leaves
abbrev pub behind_picture : PicturePlan → (List BufferPicture → Decoded) → List BufferPicture → Decoded
behind_picture p next buffer = put_out (out_at buffer p.outputs.behind) (next (kept_from p.outputs.kept 0 buffer))

-- a decoded picture stands behind the last of the buffer; where it couldn't be decoded, that ends decoding
abbrev pub entered : PicturePlan → (List BufferPicture → Decoded) → List BufferPicture → Result BufferPicture Stop
    → Decoded
entered p next buffer (Err s) = ended (Some s)
entered p next buffer (Ok picture) = behind_picture p next (buffer ++ picture ∷ [])

-- a picture: what goes out before it is decoded goes out before its data are judged
abbrev pub with_picture : Bool → PicturePlan → (List BufferPicture → Decoded) → List BufferPicture → Decoded
with_picture hash p next buffer =
    put_out (out_at buffer p.outputs.before) (entered p next buffer (decoded_picture hash buffer p))

-- the pictures up to the first in which something is broken or met, in decoding order, with the pictures that the
-- buffer has before them, and what follows the last of them
abbrev pub decoded_from : Bool → (List BufferPicture → Decoded) → List PicturePlan → List BufferPicture → Decoded
decoded_from hash end [] buffer = end buffer
decoded_from hash end (p ∷ pictures) buffer = with_picture hash p (decoded_from hash end pictures) buffer

-- behind the last picture: the pictures of the buffer that go out at the input's end, and what stops decoding
abbrev pub finished : List ℕ → Option Stop → List BufferPicture → Decoded
finished last stop buffer = record { pictures = out_at buffer last; stop = stop }

-- before the first picture the buffer is empty
abbrev pub decoded_plan : Bool → Planned → Decoded
decoded_plan hash p = decoded_from hash (finished p.last p.stop) p.pictures []

-- the pictures of sequential decoding up to the first broken rule or stated limit, and that rule or limit: of the whole
-- input, or of what has come of it. Where hashes aren't compared, no stated hash stops decoding
unfoldable pub decoded : Bool → Bool → List ℕ → Decoded
decoded hash ended bytes = decoded_plan hash (planned_of ended bytes)

-- the bytes that sequential decoding writes in a form
abbrev pub bytes_of : Form → Decoded → List ℕ
bytes_of form d = concat (written form 0 d.pictures)

-- what was read of a picture is all its coding tree units in decoding order, each of the segment that has it
pub record AreAllUnits (p : PicturePlan) (read : Progress) : Type 0 where
  pub units : addresses read.given ≡ picture_units p
  pub segments : with_segments read.given ≡ shared_units p

-- where no rule is broken in a picture's data, all its coding tree units are read
abbrev pub HasAllUnits : PicturePlan → Type 0
HasAllUnits p = (read : Progress) → picture_read p [] ≡ Ok read → AreAllUnits p read

-- what is decoded of more input: the same pictures and then others, and nothing else where something was broken or met
pub record Continues (short long : Decoded) : Type 0 where
  pub more : List OutPicture
  pub pictures : long.pictures ≡ short.pictures ++ more
  pub bytes : (form : Form) → bytes_of form long
      ≡ bytes_of form short ++ concat (written form (length short.pictures) more)
  pub stopped : ¬ (short.stop ≡ None) → long ≡ short
