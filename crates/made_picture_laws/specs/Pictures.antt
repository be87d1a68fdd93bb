-- Pictures that have the samples that are drawn, by component, column and line.
use Rattle.std.specs.Prelude.{◌≡◌, ℕ, ◌+◌, ◌*◌, ◌<◌, ◌==◌, List, get_or, Some, if◌then◌else◌}
use Rattle.std.specs.Prelude.{slice_get, Ok}
use Rattle.plan_types.specs.declared.picture_plan.PicturePlan.{PicturePlan}
use Rattle.spec_made.specs.Planes.{Planes}
use Rattle.spec_picture_build.specs.References.{DecodedPicture}
use Rattle.spec_decoded_pictures.specs.Decoded.{picture_decoded}
use Rattle.made_laws.specs.Sets.{made_format}
use Rattle.made_sample_laws.specs.Units.{side_of}

-- the columns and lines of a component: 8 coding tree units across, and 6 down
abbrev pub width_of : ℕ → ℕ
width_of c = 8 * side_of c

abbrev pub height_of : ℕ → ℕ
height_of c = 6 * side_of c

-- the plane of a component: luma, Cb and Cr are counted 0, 1 and 2
abbrev pub component_plane : Planes → ℕ → List ℕ
component_plane p c = if c == 0 then p.luma else (if c == 1 then p.cb else p.cr)

-- its sample in a column of a line
abbrev pub drawn_at : Planes → ℕ → ℕ → ℕ → ℕ
drawn_at p c x y = get_or (component_plane p c) (width_of c * y + x) 0

-- a decoded picture of the format of made pictures, with these samples
pub record IsDrawn (planes : Planes) (d : DecodedPicture) : Type 0 where
  pub format : d.format ≡ made_format
  pub samples : (c x y : ℕ) → c < 3 → x < width_of c → y < height_of c → d.samples c x y ≡ drawn_at planes c x y

-- planes of samples of 8 bits
abbrev pub AreBytes : Planes → Type 0
AreBytes p = (c x y : ℕ) → c < 3 → x < width_of c → y < height_of c → drawn_at p c x y < 256

-- a buffer that has a picture with these samples at a place
pub record HasDrawn (planes : Planes) (buffer : List DecodedPicture) (place : ℕ) : Type 0 where
  pub picture : DecodedPicture
  pub there : slice_get buffer place ≡ Some picture
  pub drawn : IsDrawn planes picture

-- a planned picture that is decoded, by the buffer before it, as a picture with these samples
pub record IsDecodedAs (buffer : List DecodedPicture) (p : PicturePlan) (planes : Planes) : Type 0 where
  pub picture : DecodedPicture
  pub decoded : picture_decoded buffer p ≡ Ok picture
  pub drawn : IsDrawn planes picture
