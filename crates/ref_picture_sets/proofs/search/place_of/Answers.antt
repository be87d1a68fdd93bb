use Rattle.std.proofs.Common.{ℕ, ◌∙◌, Bool, None, slice_index_or, sym}
use Rattle.spec_reference_pictures.specs.ReferencePictureSet.{is_sought}
use Rattle.ref_picture_sets.proofs.Places.{greatest_none, greatest_here, greatest_other}
use Rattle.ref_picture_sets.proofs.search.place_of.Goals as goal
use Rattle.ref_picture_sets.proofs.search.place_of.Goals.{then-is_sought, else-is_sought}

pub loop-k-init : goal.loop-k-init
loop-k-init c =
    let test : ℕ → Bool = λ k. is_sought c.args.name (slice_index_or c.args.counts.now k None) in
    sym (greatest_none test)

pub loop-k-preserved : goal.loop-k-preserved
loop-k-preserved c =
    let test : ℕ → Bool = λ k. is_sought c.args.name (slice_index_or c.args.counts.now k None) in
    elim c.if-is_sought.branch [
      | then-is_sought w ↦
          w.found-is ∙ sym (greatest_here test c.loop-k.k c.is_sought.result c.is_sought.ensures w.if-is_sought.true)
      | else-is_sought w ↦
          w.found-is ∙ c.loop-k.invariant
          ∙ sym (greatest_other test c.loop-k.k c.is_sought.result c.is_sought.ensures w.if-is_sought.false)
    ]
