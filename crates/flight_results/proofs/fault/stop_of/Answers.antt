use Rattle.std.proofs.Common.{rules, ◌≡◌, ℕ, List, ◌/◌, ◌%◌, Some, slice_get, ap, subst}
use Rattle.plan_types.specs.declared.picture_plan.PicturePlan.{PicturePlan}
use Rattle.progress_words.specs.Faults.{no_fault}
use Rattle.flight_results.proofs.Faults.{stops_there}
use Rattle.flight_results.proofs.fault.stop_of.Goals as goal

pub returns : goal.returns
returns c = λ f pictures sized tells.
    let word = c.args.word in
    let whole = c.units_a_picture-whole.result in
    let some : word ≡ no_fault → ⊥ = search rules in
    stops_there f word tells c.pictures_are_decoded_as_known.ensures c.args.layout.now sized some (word / 32 / whole)
    (word / 32 % whole) c.fault_at.result (ap (λ (n : ℕ). word / 32 / n) c.units_a_picture-whole.ensures.value)
    (ap (λ (n : ℕ). word / 32 % n) c.units_a_picture-whole.ensures.value)
    (λ plan at breach has having is. c.fault_at.ensures plan at breach
    (subst (λ (ps : List PicturePlan). slice_get ps (word / 32 / whole) ≡ Some plan) pictures has) having is)
