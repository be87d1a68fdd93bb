-- Pictures without strengths and offsets.
use Rattle.std.proofs.Common.{◌≡◌, ℕ, ◌∙◌}
use Rattle.spec_sample_adaptive_offset.specs.CtuRecords.{Off}
use Rattle.spec_deblocking.proofs.Unchanged.{deblocked_off}
use Rattle.spec_sample_adaptive_offset.proofs.Samples.{unchanged}
use Rattle.spec_loop_filters.specs.Filters.{LoopFilters, Samples, deblocked_samples, depth_of, final_samples}
use Rattle.spec_loop_filters.specs.Filters.{height_of}
use Rattle.spec_loop_filters.specs.Filters.{offset_plane, plane_of, width_of}

pub deblocked_same : (filters : LoopFilters) (samples : Samples) (c x y : ℕ) →
    ((i j : ℕ) → (filters.places i j).left_strength ≡ 0) → ((i j : ℕ) → (filters.places i j).top_strength ≡ 0) →
    deblocked_samples filters samples c x y ≡ samples c x y
unfolding deblocked_samples
deblocked_same filters samples c x y left top =
    deblocked_off (plane_of filters.format c) (depth_of filters.format c) (width_of filters.format c)
    (height_of filters.format c) filters.places (samples c) x y left top

pub final_same : (filters : LoopFilters) (samples : Samples) (c x y : ℕ) →
    ((i j : ℕ) → (filters.places i j).left_strength ≡ 0) → ((i j : ℕ) → (filters.places i j).top_strength ≡ 0) →
    ((u v : ℕ) → (filters.units c u v).offset ≡ Off) → final_samples filters samples c x y ≡ samples c x y
unfolding final_samples
final_same filters samples c x y left top none =
    unchanged (offset_plane filters c) (deblocked_samples filters samples c) x y none
    ∙ deblocked_same filters samples c x y left top
