use Rattle.std.proofs.Common.{ℕ, ◌≡◌, ◌∙◌, ◌%◌, length, slice_index_or, arith, ap}
use Rattle.std.proofs.lemmas.List.FromFn.{length-map-range_with_len}
use Rattle.header_types.specs.declared.reference_pictures.RefEntry.{RefEntry}
use Rattle.spec_reference_pictures.specs.ReferenceLists.{entry_taken, no_reference, temporary_entry}
use Rattle.ref_picture_sets.proofs.Growing.{places_more}
use Rattle.ref_picture_sets.proofs.reference_lists.reference_list.Goals as goal

pub push-requires : goal.push-requires
push-requires c =
    let f : ℕ → RefEntry = λ i. temporary_entry c.args.turn.now (entry_taken c.args.list_entry.now i) in
    let many : length c.loop-i.list ≡ c.loop-i.i =
    ap length c.loop-i.invariant ∙ length-map-range_with_len f 0 c.loop-i.i in
    omega arith

pub loop-i-preserved : goal.loop-i-preserved
unfolding temporary_entry
loop-i-preserved c =
    let f : ℕ → RefEntry = λ i. temporary_entry c.args.turn.now (entry_taken c.args.list_entry.now i) in
    let at : ℕ → ℕ → RefEntry = λ i n. slice_index_or c.args.turn.now (i % n) no_reference in
    let next : c.get.result ≡ f c.loop-i.i =
    c.get.ensures ∙ ap (λ i. at i c.len-size.result) c.entry_taken.ensures
    ∙ ap (at (entry_taken c.args.list_entry.now c.loop-i.i)) c.len-size.ensures in
    places_more f c.loop-i.i _ _ _ c.loop-i.invariant next c.push.ensures
