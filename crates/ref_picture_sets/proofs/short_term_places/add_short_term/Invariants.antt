use Rattle.std.proofs.Common.{◌≡◌, ◌++◌, take}
use Rattle.spec_reference_pictures.specs.ReferencePictureSet.{short_term_set}
use Rattle.ref_picture_sets.proofs.short_term_places.add_short_term.Given as goal

abbrev pub invariant-loop-entry : goal.invariant-loop-entry
invariant-loop-entry l =
    l.set ≡ l.fn.set ++ short_term_set l.counts l.picture.poc l.current (take l.entry-index l.entries)
