use Rattle.spec_reference_pictures.specs.ReferenceLists.{reference_lists}
use Rattle.spec_reference_pictures.proofs.Entries.{list_0_current, list_1_current}
use Rattle.spec_reference_pictures.proofs.laws_references.lists_have_current_pictures.Goals as goal

pub returns-clause-l0 : goal.returns-clause-l0
unfolding reference_lists
returns-clause-l0 c slice rps dpb = list_0_current dpb rps slice.inter

pub returns-clause-l1 : goal.returns-clause-l1
unfolding reference_lists
returns-clause-l1 c slice rps dpb = list_1_current dpb rps slice.inter
