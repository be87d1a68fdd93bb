use Rattle.std.proofs.Common.{◌≡◌, slice_index_or, None}
use Rattle.spec_reference_pictures.specs.ReferencePictureSet.{greatest_below, is_sought}
use Rattle.ref_picture_sets.proofs.search.place_of.Given as goal

abbrev pub invariant-loop-k : goal.invariant-loop-k
invariant-loop-k l = l.found ≡ greatest_below (λ k. is_sought l.name (slice_index_or l.counts k None)) l.k
