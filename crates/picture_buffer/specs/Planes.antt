-- The samples of a picture by component, column and row (6.2).
use Rattle.std.specs.Prelude.{◌≡◌, ℕ, ◌+◌, ◌*◌, ◌/◌, ◌≤◌, ◌==◌, ◌&&◌, nat_lt, List, [], length, slice_index}
use Rattle.std.specs.Prelude.{if◌then◌else◌}
use Rattle.std.specs.List.{refill}

-- a plane's samples, row after row
pub record PlaneSamples : Type 0 where
  pub width : ℕ
  pub height : ℕ
  pub samples : List ℕ

-- the planes of the components 0, 1 and 2
pub record PictureSamples : Type 0 where
  pub luma : PlaneSamples
  pub cb : PlaneSamples
  pub cr : PlaneSamples

-- a plane of sides up to 8192 has a sample at each place
pub record IsPlane (width height : ℕ) (samples : List ℕ) : Type 0 where
  pub columns : width ≤ 8192
  pub rows : height ≤ 8192
  pub count : length samples ≡ width * height

-- a plane after its samples were written, as many as there were
abbrev pub with_samples : PlaneSamples → List ℕ → PlaneSamples
with_samples plane written = record {
  width = plane.width;
  height = plane.height;
  samples = refill (length plane.samples) plane.samples written;
}

-- the sample in a column of a row; 0 outside the plane
unfoldable pub plane_at : PlaneSamples → ℕ → ℕ → ℕ
plane_at plane x y =
    if nat_lt x plane.width && nat_lt y plane.height then slice_index plane.samples (plane.width * y + x) else 0

-- the sides of a component's plane, in samples; 0 past the third component
abbrev pub plane_width : PictureSamples → ℕ → ℕ
plane_width p c = if c == 0 then p.luma.width else (if c == 1 then p.cb.width else (if c == 2 then p.cr.width else 0))

abbrev pub plane_height : PictureSamples → ℕ → ℕ
plane_height p c =
    if c == 0 then p.luma.height else (if c == 1 then p.cb.height else (if c == 2 then p.cr.height else 0))

-- the samples of a component's plane, row after row; none past the third component
abbrev pub plane_samples : PictureSamples → ℕ → List ℕ
plane_samples p c =
    if c == 0 then p.luma.samples else (if c == 1 then p.cb.samples else (if c == 2 then p.cr.samples else []))

-- a picture after the samples of a component were written
abbrev pub with_component : PictureSamples → ℕ → List ℕ → PictureSamples
with_component p c written = record {
  luma = if c == 0 then with_samples p.luma written else p.luma;
  cb = if c == 1 then with_samples p.cb written else p.cb;
  cr = if c == 2 then with_samples p.cr written else p.cr;
}

-- the sample of a component in a column of a row; 0 outside the picture
unfoldable pub samples_of : PictureSamples → ℕ → ℕ → ℕ → ℕ
samples_of p c x y =
    if c == 0 then plane_at p.luma x y
    else (if c == 1 then plane_at p.cb x y else (if c == 2 then plane_at p.cr x y else 0))

-- a picture of these luma sides, whose chroma has half as many samples across and down
pub record HasSides (p : PictureSamples) (width height : ℕ) : Type 0 where
  pub luma_width : p.luma.width ≡ width
  pub luma_height : p.luma.height ≡ height
  pub cb_width : p.cb.width ≡ width / 2
  pub cb_height : p.cb.height ≡ height / 2
  pub cr_width : p.cr.width ≡ width / 2
  pub cr_height : p.cr.height ≡ height / 2
