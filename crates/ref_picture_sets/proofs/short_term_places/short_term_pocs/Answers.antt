use Rattle.std.proofs.Common.{ℕ, ℤ, Option, slice_index_or, arith}
use Rattle.spec_reference_pictures.specs.ReferencePictureSet.{no_picture, short_term_poc, short_term_pocs}
use Rattle.ref_picture_sets.proofs.Growing.{lengths, places_more}
use Rattle.ref_picture_sets.proofs.short_term_places.short_term_pocs.Goals as goal

pub loop-k-preserved : goal.loop-k-preserved
loop-k-preserved c =
    let f : ℕ → Option ℤ =
    λ k. short_term_poc c.args.kind c.args.long.now k (slice_index_or c.args.dpb.now k no_picture) in
    places_more f c.loop-k.k _ _ _ c.loop-k.invariant c.short_term_poc.ensures c.in_ok-push.ensures.ok

pub returns-clause-value : goal.returns-clause-value
unfolding short_term_pocs
returns-clause-value c = grind (arith, lengths)
