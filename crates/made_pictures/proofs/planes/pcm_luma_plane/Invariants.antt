use Rattle.std.proofs.Common.{◌≡◌, length}
use Rattle.spec_made.specs.Planes.{luma, pcm_sample}
use Rattle.made_pictures.proofs.Filling.{filled}
use Rattle.made_pictures.proofs.planes.pcm_luma_plane.Given as goal

abbrev pub invariant-loop-k : goal.invariant-loop-k
invariant-loop-k l = (l.plane.items ≡ filled 128 (pcm_sample l.units luma) l.k) × (length l.plane.items ≡ l.k)
