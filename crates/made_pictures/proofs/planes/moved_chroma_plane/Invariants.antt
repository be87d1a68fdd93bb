use Rattle.std.proofs.Common.{◌≡◌, length}
use Rattle.spec_made.specs.Planes.{moved_sample}
use Rattle.made_pictures.proofs.Filling.{filled}
use Rattle.made_pictures.proofs.planes.moved_chroma_plane.Given as goal

abbrev pub invariant-loop-k : goal.invariant-loop-k
invariant-loop-k l = (l.plane.items ≡ filled 64 (moved_sample l.from 8 l.shift) l.k) × (length l.plane.items ≡ l.k)
