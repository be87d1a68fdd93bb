-- The planes of a picture of which some coding tree units are laid.
use Rattle.std.specs.Prelude.{ℕ, ◌*◌, ◌/◌, ◌%◌, nat_lt, map, slice_index, if◌then◌else◌}
use Rattle.std.specs.List.{range_with_len}
use Rattle.spec_slice_data.specs.Segment.{PictureShape}
use Rattle.picture_trees.specs.SpecPictureTrees.{unit_at}
use Rattle.spec_picture_build.specs.Border.{unit_side}
use Rattle.picture_buffer.specs.Planes.{PictureSamples, PlaneSamples}

-- a plane of units of so many samples on a side, with 0 in those from an address on
unfoldable pub laid_plane : PictureShape → ℕ → ℕ → PlaneSamples → PlaneSamples
laid_plane picture laid side plane = record {
  width = plane.width;
  height = plane.height;
  samples = map
      (λ k.
      if nat_lt (unit_at picture side (k % plane.width) (k / plane.width)) laid then slice_index plane.samples k else 0)
      (range_with_len 0 (plane.width * plane.height));
}

-- the planes of a picture, with 0 in the units from an address on
unfoldable pub laid_planes : PictureShape → ℕ → PictureSamples → PictureSamples
laid_planes picture laid planes = record {
  luma = laid_plane picture laid (unit_side picture 0) planes.luma;
  cb = laid_plane picture laid (unit_side picture 1) planes.cb;
  cr = laid_plane picture laid (unit_side picture 2) planes.cr;
}

-- such planes, and how many units are laid, in order of address
pub record Fresh : Type 0 where
  pub planes : PictureSamples
  pub picture : PictureShape
  pub laid : ℕ
