use Rattle.std.proofs.Common.{◌≡◌, ◌+◌, length, sym, subst}
use Rattle.header_types.specs.declared.reference_pictures.Rps.{Rps}
use Rattle.spec_reference_pictures.specs.ReferencePictureSet.{num_pic_total_curr}
use Rattle.spec_reference_pictures.proofs.DerivedSets.{set_is}
use Rattle.spec_reference_pictures.proofs.Total.{none_missing, total_found}
use Rattle.spec_reference_pictures.proofs.laws_references.the_total_is_that_of_the_fields.Goals as goal

pub returns : goal.returns
returns c kind fields poc dpb rps other e =
    let P : Rps → Type 0 =
    λ r. length r.st_curr_before + length r.st_curr_after + length r.lt_curr ≡ num_pic_total_curr fields in
    subst P (sym (set_is kind fields poc dpb rps e))
    (total_found kind fields poc dpb (length dpb) (none_missing kind fields poc dpb rps other e))
