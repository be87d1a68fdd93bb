use Rattle.std.proofs.Common.{◌≡◌, length}
use Rattle.spec_made.specs.Planes.{pcm_sample}
use Rattle.made_pictures.proofs.Filling.{filled}
use Rattle.made_pictures.proofs.planes.pcm_chroma_plane.Given as goal

abbrev pub invariant-loop-k : goal.invariant-loop-k
invariant-loop-k l = (l.plane.items ≡ filled 64 (pcm_sample l.units (record {
  side = 8;
  whole = l.whole;
  quarter =
      l.quarter;
})) l.k) × (length l.plane.items ≡ l.k)
