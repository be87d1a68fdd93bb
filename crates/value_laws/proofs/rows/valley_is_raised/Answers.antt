use Rattle.std.proofs.Common.{refl}
use Rattle.spec_sample_adaptive_offset.specs.Offsets.{edge_idx, moved, offset_value}
use Rattle.spec_sample_adaptive_offset.specs.Plane.{edge_sample, offset_sample, sample_by}
use Rattle.value_laws.specs.Rows.{valley, valley_plane}
use Rattle.value_laws.proofs.rows.valley_is_raised.Goals as goal

pub returns : goal.returns
unfolding edge_idx moved offset_value edge_sample offset_sample sample_by valley valley_plane
returns c = refl
