-- Pictures of a flight of which a pass has seen all that stands in planes and motion fields, and what these hold then.
use Rattle.std.specs.Prelude.{ℕ, ◌≡◌, ◌<◌, ◌≤◌}
use Rattle.hv_base.specs.declared.line.Phase.TheVariants.{B, S}
use Rattle.board_core.specs.Places.{line_of}
use Rattle.header_types.specs.declared.sps.PictureFormat.{PictureFormat}
use Rattle.picture_buffer.specs.Motion.{FieldPlaces}
use Rattle.picture_buffer.specs.Pictures.{HeldPicture}
use Rattle.picture_buffer.specs.Planes.{PictureSamples}
use Rattle.sample_words.specs.declared.sizes.FlightSizes.{FlightSizes}
use Rattle.sample_words.specs.Sizes.{columns, rows}
use Rattle.sample_words.specs.Words.{line_number}
use Rattle.progress_words.specs.declared.view.View.{View}
use Rattle.progress_words.specs.Views.{seen_of}

-- all coding tree units of a row of a picture are seen counted, and so is the row behind all loop filters
pub record IsBuiltAndFinal {F : Type 0} (s : FlightSizes) (v : View F) (picture row : ℕ) : Type 0 where
  pub built : columns s ≤ seen_of v (line_number s (line_of B picture row))
  pub final : 1 ≤ seen_of v (line_number s (line_of S picture row))

-- so are all rows of a picture
abbrev pub IsPictureSeen : {F : Type 0} → FlightSizes → View F → ℕ → Type 0
IsPictureSeen s v picture = (row : ℕ) → row < rows s → IsBuiltAndFinal s v picture row

-- a pass has waited: it holds what it held, and has seen no less of each line
pub record HasSeenMore {F : Type 0} (v w : View F) : Type 0 where
  pub same : w ≡ record v { seen = w.seen; loads = w.loads; least = w.least; fault_loads = w.fault_loads }
  pub more : (l : ℕ) → seen_of v l ≤ seen_of w l

-- a picture of this format, these samples and this motion
abbrev pub held_picture : PictureFormat → PictureSamples → FieldPlaces → HeldPicture
held_picture format planes field = record { format = format; planes = planes; motion = field }
