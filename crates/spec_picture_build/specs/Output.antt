-- A picture as it is put out: the planes Y, Cb and Cr inside the conformance window, row after row, a byte a sample
-- where both bit depths are 8, and else two (7.4.3.2, C.5.2.4).
use Rattle.std.specs.Prelude.{ℕ, ◌+◌, ◌*◌, ◌/◌, ◌%◌, ◌==◌, ◌||◌, nat_lt, Bool, List, [], ◌∷◌, ◌++◌, map, Option, Some}
use Rattle.std.specs.Prelude.{None, if◌then◌else◌}
use Rattle.std.specs.List.{concat, flat_map, range_with_len}
use Rattle.spec_reconstruction.specs.HeaderTypes.{ConformanceWindow}
use Rattle.spec_reconstruction.specs.HeaderTypes.{PictureFormat}
use Rattle.spec_reconstruction.specs.HeaderTypes.{cropped_width, cropped_height}
use Rattle.spec_picture_build.specs.Border.{Samples}

-- the samples of a component that go out: the first column and the first line, how many of each, and whether a sample
-- goes out as two bytes
pub record Window : Type 0 where
  pub left : ℕ
  pub top : ℕ
  pub width : ℕ
  pub height : ℕ
  pub two_bytes : Bool

-- the luma samples left of the window and above it
abbrev pub luma_left : Option ConformanceWindow → ℕ
luma_left None = 0
luma_left (Some w) = 2 * w.conf_win_left_offset

-- the lines above the window
abbrev pub luma_top : Option ConformanceWindow → ℕ
luma_top None = 0
luma_top (Some w) = 2 * w.conf_win_top_offset

-- how many luma samples a sample of a component stands for, across and down
abbrev pub luma_samples : ℕ → ℕ
luma_samples c = if c == 0 then 1 else 2

-- whether a sample of a picture goes out as two bytes: where either bit depth is over 8, one of any component
abbrev pub has_two_bytes : PictureFormat → Bool
has_two_bytes format = nat_lt 0 format.bit_depth_luma_minus8 || nat_lt 0 format.bit_depth_chroma_minus8

-- the window of a component, in its own samples
unfoldable pub window_of : PictureFormat → ℕ → Window
window_of format c = record {
  left = luma_left format.conformance_window / luma_samples c;
  top = luma_top format.conformance_window / luma_samples c;
  width = cropped_width format / luma_samples c;
  height = cropped_height format / luma_samples c;
  two_bytes = has_two_bytes format;
}

-- the bytes of a sample: one, or two, the low one first; one of 8 bits is its byte, and is followed by 0 where two are
-- written
abbrev pub sample_bytes : Bool → ℕ → List ℕ
sample_bytes two_bytes sample =
    if two_bytes then sample % 256 ∷ sample / 256 % 256 ∷ [] else sample % 256 ∷ []

-- a row of a window
abbrev pub row_bytes : Samples → ℕ → Window → ℕ → List ℕ
row_bytes samples c w row =
    flat_map (λ column. sample_bytes w.two_bytes (samples c (w.left + column) (w.top + row))) (range_with_len 0 w.width)

-- the bytes of a component, row by row
unfoldable pub plane_bytes : Samples → ℕ → Window → List ℕ
plane_bytes samples c w = concat (map (row_bytes samples c w) (range_with_len 0 w.height))

-- the bytes of a picture
unfoldable pub picture_bytes : PictureFormat → Samples → List ℕ
picture_bytes format samples =
    plane_bytes samples 0 (window_of format 0)
    ++ (plane_bytes samples 1 (window_of format 1) ++ plane_bytes samples 2 (window_of format 2))
