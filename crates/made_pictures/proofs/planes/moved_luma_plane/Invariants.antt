use Rattle.std.proofs.Common.{◌≡◌, length}
use Rattle.spec_made.specs.Planes.{moved_sample}
use Rattle.made_pictures.proofs.Filling.{filled}
use Rattle.made_pictures.proofs.planes.moved_luma_plane.Given as goal

abbrev pub invariant-loop-k : goal.invariant-loop-k
invariant-loop-k l = (l.plane.items ≡ filled 128 (moved_sample l.from 16 l.shift) l.k) × (length l.plane.items ≡ l.k)
