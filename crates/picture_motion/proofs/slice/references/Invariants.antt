use Rattle.std.proofs.Common.{◌≡◌, ℕ, ◌<◌, length, get_or}
use Rattle.spec_motion.specs.Vectors.{no_reference}
use Rattle.spec_picture_motion.specs.Slices.{reference_at}
use Rattle.picture_motion.proofs.slice.references.Given as goal

abbrev pub invariant-loop-k : goal.invariant-loop-k
invariant-loop-k l = record {
  count : length l.all ≡ 16;
  told : (q : ℕ) → q < l.k → get_or l.all q no_reference ≡ reference_at l.entries q;
}
