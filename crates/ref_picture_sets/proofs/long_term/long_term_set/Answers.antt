use Rattle.std.proofs.Common.{ℕ, ◌≡◌, ◌∙◌, ◌+◌, Bool, Option, None, slice_index_or, length, map, arith, refl, ap, sym}
use Rattle.std.specs.List.{filter, range_with_len}
use Rattle.spec_reference_pictures.specs.ReferencePictureSet.{is_for, no_entry, long_term_set}
use Rattle.spec_reference_pictures.proofs.Total.{picked_range}
use Rattle.ref_picture_sets.proofs.Growing.{picked, unpicked}
use Rattle.ref_picture_sets.proofs.long_term.long_term_set.Goals as goal
use Rattle.ref_picture_sets.proofs.long_term.long_term_set.Goals.{then-is_for+in_ok-push, else-is_for}

pub loop-i-preserved : goal.loop-i-preserved
loop-i-preserved c =
    let f : ℕ → Option ℕ = λ i. slice_index_or c.args.places.now i None in
    let p : ℕ → Bool =
    λ i. is_for c.args.current (slice_index_or c.args.entries.now i no_entry).used_by_curr_pic_lt_flag in
    let step = picked_range p c.loop-i.i in
    elim c.if-is_for.branch [
      | then-is_for+in_ok-push w ↦
          picked f p (range_with_len 0 c.loop-i.i) (range_with_len 0 (c.loop-i.i + 1)) c.loop-i.i step
          (sym c.is_for.ensures ∙ w.if-is_for.true)
          _ _ _ c.loop-i.invariant refl (w.set-is ∙ w.in_ok-push.ensures.ok)
      | else-is_for w ↦
          w.set-is
          ∙ unpicked f p (range_with_len 0 c.loop-i.i) (range_with_len 0 (c.loop-i.i + 1)) c.loop-i.i step
          (sym c.is_for.ensures ∙ w.if-is_for.false)
          _ c.loop-i.invariant
    ]

pub returns : goal.returns
unfolding long_term_set
returns c =
    let f : ℕ → Option ℕ = λ i. slice_index_or c.args.places.now i None in
    let p : ℕ → Bool =
    λ i. is_for c.args.current (slice_index_or c.args.entries.now i no_entry).used_by_curr_pic_lt_flag in
    let all : c.loop-i.i ≡ length c.args.entries.now = omega arith in
    c.loop-i.invariant ∙ ap (λ n. map f (filter p (range_with_len 0 n))) all
