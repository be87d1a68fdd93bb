use Rattle.std.proofs.Common.{◌≡◌, map, slice_index_or, None}
use Rattle.std.specs.List.{filter, range_with_len}
use Rattle.spec_reference_pictures.specs.ReferencePictureSet.{is_for, no_entry}
use Rattle.ref_picture_sets.proofs.long_term.long_term_set.Given as goal

abbrev pub invariant-loop-i : goal.invariant-loop-i
invariant-loop-i l =
    l.set
    ≡ map (λ i. slice_index_or l.places i None)
    (filter (λ i. is_for l.current (slice_index_or l.entries i no_entry).used_by_curr_pic_lt_flag)
    (range_with_len 0 l.i))
