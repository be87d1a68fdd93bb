use Rattle.std.proofs.Common.{length, sym, subst}
use Rattle.std.specs.List.{Contains}
use Rattle.header_types.specs.declared.reference_pictures.Rps.{Rps}
use Rattle.spec_reference_pictures.proofs.Distinct.{after_foll_apart, before_after_apart, before_foll_apart}
use Rattle.spec_reference_pictures.proofs.DerivedSets.{set_is}
use Rattle.spec_reference_pictures.proofs.laws_references.short_term_lists_are_disjoint.Goals as goal

pub returns-clause-before_after : goal.returns-clause-before_after
returns-clause-before_after c kind fields poc dpb rps e distinct k =
    let P : Rps → Type 0 = λ r. Contains r.st_curr_before k → Contains r.st_curr_after k → ⊥ in
    subst P (sym (set_is kind fields poc dpb rps e)) (before_after_apart kind fields poc dpb (length dpb) k distinct)

pub returns-clause-before_foll : goal.returns-clause-before_foll
returns-clause-before_foll c kind fields poc dpb rps e distinct k =
    let P : Rps → Type 0 = λ r. Contains r.st_curr_before k → Contains r.st_foll k → ⊥ in
    subst P (sym (set_is kind fields poc dpb rps e)) (before_foll_apart kind fields poc dpb (length dpb) k distinct)

pub returns-clause-after_foll : goal.returns-clause-after_foll
returns-clause-after_foll c kind fields poc dpb rps e distinct k =
    let P : Rps → Type 0 = λ r. Contains r.st_curr_after k → Contains r.st_foll k → ⊥ in
    subst P (sym (set_is kind fields poc dpb rps e)) (after_foll_apart kind fields poc dpb (length dpb) k distinct)
