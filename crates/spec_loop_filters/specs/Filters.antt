-- The samples of a picture behind its loop filters (8.7): each component is deblocked, and then has its offsets.
use Rattle.std.specs.Prelude.{ℕ, ◌/◌, ◌^◌, ◌<◌, ◌==◌, if◌then◌else◌}
use Rattle.spec_deblocking.specs.declared.place.Place.{Place}
use Rattle.spec_deblocking.specs.declared.place.Plane.{Plane}
use Rattle.spec_deblocking.specs.declared.place.Plane.TheVariants.{Luma, Chroma}
use Rattle.spec_deblocking.specs.Places.{side}
use Rattle.spec_deblocking.specs.Planes.{deblocked}
use Rattle.spec_sample_adaptive_offset.specs.declared.unit.OffsetUnit.{OffsetUnit}
use Rattle.spec_sample_adaptive_offset.specs.Plane.{OffsetPlane, offset_sample}
use Rattle.spec_loop_filters.specs.declared.format.FilterFormat.{FilterFormat}

-- by component, column and line, counted from 0
abbrev pub Samples : Type 0
Samples = ℕ → ℕ → ℕ → ℕ

-- what the samples depend on, apart from those before
pub record LoopFilters : Type 0 where
  pub format : FilterFormat
  -- a place of four columns and four lines of luma samples, by its column and line, both in places
  pub places : ℕ → ℕ → Place
  -- a component of a coding tree unit, by the component and the unit's column and row
  pub units : ℕ → ℕ → ℕ → OffsetUnit

-- how many luma samples a sample of a component stands for, across and down
abbrev pub luma_samples : ℕ → ℕ
luma_samples c = if c == 0 then 1 else 2

-- the sides of a component's plane, and of its coding tree blocks, in its own samples
abbrev pub width_of : FilterFormat → ℕ → ℕ
width_of format c = format.width / luma_samples c

-- the lines of a component
abbrev pub height_of : FilterFormat → ℕ → ℕ
height_of format c = format.height / luma_samples c

-- the columns of its coding tree blocks
abbrev pub size_of : FilterFormat → ℕ → ℕ
size_of format c = format.ctb_size / luma_samples c

-- its bit depth
abbrev pub depth_of : FilterFormat → ℕ → ℕ
depth_of format c = if c == 0 then format.luma_depth else format.chroma_depth

-- what the samples of a component are; cQpPicOffset is that of Cb or of Cr
abbrev pub plane_of : FilterFormat → ℕ → Plane
plane_of format c =
    if c == 0 then Luma else (if c == 1 then Chroma format.pps_cb_qp_offset else Chroma format.pps_cr_qp_offset)

-- the samples of a component after deblocking
unfoldable pub deblocked_samples : LoopFilters → Samples → ℕ → ℕ → ℕ → ℕ
deblocked_samples filters samples c =
    deblocked (plane_of filters.format c) (depth_of filters.format c) (width_of filters.format c)
    (height_of filters.format c) filters.places (samples c)

-- what the offsets of a component depend on; a sample is kept where its place is
abbrev pub offset_plane : LoopFilters → ℕ → OffsetPlane
offset_plane filters c = record {
  width = width_of filters.format c;
  height = height_of filters.format c;
  ctb_size = size_of filters.format c;
  depth = depth_of filters.format c;
  unit = filters.units c;
  kept = λ x y. (filters.places (x / side (plane_of filters.format c)) (y / side (plane_of filters.format c))).kept;
}

-- a sample of a component behind both
unfoldable pub final_samples : LoopFilters → Samples → ℕ → ℕ → ℕ → ℕ
final_samples filters samples c x y = offset_sample (offset_plane filters c) (deblocked_samples filters samples c) x y

-- every sample is in the range of its bit depth
abbrev pub AreInRange : FilterFormat → Samples → Type 0
AreInRange format samples = (c x y : ℕ) → samples c x y < 2 ^ depth_of format c
