use Rattle.std.proofs.Common.{◌∙◌, length, ap, sym, subst}
use Rattle.header_types.specs.declared.reference_pictures.Mark.TheVariants as mark
use Rattle.header_types.specs.declared.reference_pictures.Rps.{Rps}
use Rattle.spec_reference_pictures.specs.ReferencePictureSet.{IsLongTerm, IsMarked, IsShortTerm, named_sets}
use Rattle.spec_reference_pictures.proofs.DerivedSets.{long_marked, marked_long, marked_short, marks_length, set_is}
use Rattle.spec_reference_pictures.proofs.DerivedSets.{short_marked}
use Rattle.spec_reference_pictures.proofs.laws_references.every_kept_picture_is_in_a_set.Goals as goal

pub returns-clause-marks : goal.returns-clause-marks
returns-clause-marks c kind fields poc dpb rps e =
    ap (λ (r : Rps). length r.marks) (set_is kind fields poc dpb rps e)
    ∙ marks_length (named_sets kind fields poc dpb) (length dpb)

pub returns-clause-long : goal.returns-clause-long
returns-clause-long c kind fields poc dpb rps e k =
    let P : Rps → Type 0 = λ r. IsMarked r k mark.Long → IsLongTerm r k in
    subst P (sym (set_is kind fields poc dpb rps e)) (marked_long (named_sets kind fields poc dpb) (length dpb) k)

pub returns-clause-short : goal.returns-clause-short
returns-clause-short c kind fields poc dpb rps e k =
    let P : Rps → Type 0 = λ r. IsMarked r k mark.Short → IsShortTerm r k in
    subst P (sym (set_is kind fields poc dpb rps e)) (marked_short (named_sets kind fields poc dpb) (length dpb) k)

pub returns-clause-long_marked : goal.returns-clause-long_marked
returns-clause-long_marked c kind fields poc dpb rps e k =
    let P : Rps → Type 0 = λ r. IsLongTerm r k → IsMarked r k mark.Long in
    subst P (sym (set_is kind fields poc dpb rps e)) (long_marked kind fields poc dpb k)

pub returns-clause-short_marked : goal.returns-clause-short_marked
returns-clause-short_marked c kind fields poc dpb rps e k =
    let P : Rps → Type 0 = λ r. IsShortTerm r k → IsMarked r k mark.Short in
    subst P (sym (set_is kind fields poc dpb rps e)) (short_marked kind fields poc dpb k)
