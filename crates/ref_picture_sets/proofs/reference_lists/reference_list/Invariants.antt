use Rattle.std.proofs.Common.{◌≡◌, map}
use Rattle.std.specs.List.{range_with_len}
use Rattle.spec_reference_pictures.specs.ReferenceLists.{entry_taken, temporary_entry}
use Rattle.ref_picture_sets.proofs.reference_lists.reference_list.Given as goal

abbrev pub invariant-loop-i : goal.invariant-loop-i
invariant-loop-i l = l.list ≡ map (λ i. temporary_entry l.turn (entry_taken l.list_entry i)) (range_with_len 0 l.i)
