use Rattle.std.proofs.Common.{◌≡◌, map, slice_index_or}
use Rattle.std.specs.List.{range_with_len}
use Rattle.spec_reference_pictures.specs.ReferencePictureSet.{no_picture, short_term_poc}
use Rattle.ref_picture_sets.proofs.short_term_places.short_term_pocs.Given as goal

abbrev pub invariant-loop-k : goal.invariant-loop-k
invariant-loop-k l =
    l.counts ≡ map (λ k. short_term_poc l.kind l.long k (slice_index_or l.dpb k no_picture)) (range_with_len 0 l.k)
