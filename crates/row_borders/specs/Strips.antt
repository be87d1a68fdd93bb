-- Samples, motion and coded flags along a row of places, or along a column. A place is a block of 4x4 luma samples.
use Rattle.std.specs.Prelude.{ℕ, ◌*◌, ◌≤◌, Bool, false, Option}
use Rattle.place_grid.specs.Cells.{Cells, HasCells, cell}
use Rattle.picture_buffer.specs.declared.place_motion.PlaceMotion.{PlaceMotion}
use Rattle.picture_buffer.specs.Motion.{FieldPlaces, HasPlaces, motions_of}
use Rattle.picture_buffer.specs.Planes.{HasSides, PictureSamples, samples_of}

-- so many places, the samples along them, their motion, and whether they are coded
pub record StripPlaces : Type 0 where
  pub places : ℕ
  pub samples : PictureSamples
  pub motion : FieldPlaces
  pub coded : Cells Bool

-- the samples of a component, counted from 0 at the first place; 0 behind the last one
abbrev pub sample_along : StripPlaces → ℕ → ℕ → ℕ
sample_along strip c k = samples_of strip.samples c k 0

-- the motion of a place; None behind the last one
abbrev pub motion_along : StripPlaces → ℕ → Option PlaceMotion
motion_along strip k = motions_of strip.motion k 0

-- whether a place is coded; false behind the last one
abbrev pub coded_along : StripPlaces → ℕ → Bool
coded_along strip k = cell false strip.coded k 0

-- there are four samples of luma along a place, and two of each component of chroma
pub record IsStrip (places : ℕ) (samples : PictureSamples) (motion : FieldPlaces) (coded : Cells Bool) : Type 0 where
  pub few : places ≤ 2048
  pub lines : HasSides samples (4 * places) 2
  pub row : HasPlaces motion places 1
  pub flags : HasCells coded places 1

-- a strip whose samples were laid, and one whose places were
abbrev pub with_samples : StripPlaces → PictureSamples → StripPlaces
with_samples strip samples =
    record { places = strip.places; samples = samples; motion = strip.motion; coded = strip.coded }

abbrev pub with_places : StripPlaces → FieldPlaces → Cells Bool → StripPlaces
with_places strip motion coded =
    record { places = strip.places; samples = strip.samples; motion = motion; coded = coded }
