-- What stays in the buffer once pictures went out.
use Rattle.std.proofs.Common.{ℕ, zero, suc, ◌+◌, ◌≤◌, ◌≡◌, ◌∙◌, Bool, true, false, if◌then◌else◌, List, length}
use Rattle.std.proofs.Common.{Option}
use Rattle.std.proofs.Common.{Some, None, nat_lt, arith, refl}
use Rattle.std.specs.List.{count_by, filter}
use Rattle.std.proofs.lemmas.Bool.{ltb-false, or_parts}
use Rattle.std.proofs.lemmas.List.Sums.{count_by-le-length, length-filter}
use Rattle.header_types.specs.declared.reference_pictures.DpbPicture.{DpbPicture}
use Rattle.header_types.specs.declared.reference_pictures.Mark.{Mark}
use Rattle.spec_reference_pictures.specs.ReferencePictureSet.{is_reference}
use Rattle.spec_output_order.specs.declared.current_picture.CurrentPicture.{CurrentPicture}
use Rattle.spec_output_order.specs.declared.next_output.NextOutput.{NextOutput}
use Rattle.spec_output_order.specs.OutputOrder.{all_marked, bumped, discarded, bumped_at_most, ended, entered}
use Rattle.spec_output_order.specs.OutputOrder.{needs_bumping, is_full, is_kept, next_from, next_output, none_out}
use Rattle.spec_output_order.specs.OutputOrder.{outputs_of, not_needed_at, started, is_needed_for_output}
use Rattle.spec_output_order.proofs.Counts.{discarded_marks, entered_marks, few_marked, kept_either, is_marked}
use Rattle.spec_output_order.proofs.Counts.{lowers}
use Rattle.spec_output_order.proofs.Counts.{none_needed, not_needed_marks}

-- where no picture has to go out, no more are needed for output than may be reordered
no_bumping : (reorder : ℕ) (size : Option ℕ) (pictures : List DpbPicture) → needs_bumping reorder size pictures ≡ false
    → count_by is_needed_for_output pictures ≤ reorder
unfolding needs_bumping
no_bumping reorder size pictures e =
    ltb-false reorder (count_by is_needed_for_output pictures)
    (or_parts (nat_lt reorder (count_by is_needed_for_output pictures)) (is_full size pictures) e).0

few_by : (reorder : ℕ) (size : Option ℕ) (n : ℕ) (pictures : List DpbPicture)
    → count_by is_needed_for_output pictures ≤ suc n
    → ((left : List DpbPicture) → count_by is_needed_for_output left ≤ n
    → count_by is_needed_for_output (bumped_at_most reorder size n left).left ≤ reorder)
    → (needs : Bool) → needs_bumping reorder size pictures ≡ needs
    → (next : Option NextOutput) → next_output pictures ≡ next
    → count_by is_needed_for_output
    (if needs then next_from pictures next (bumped_at_most reorder size n) else none_out pictures).left
    ≤ reorder
few_by reorder size n pictures few rest false e next is = no_bumping reorder size pictures e
few_by reorder size n pictures few rest true e None is = let none = none_needed pictures is in omega (arith, none)
few_by reorder size n pictures few rest true e (Some w) is =
    let less = lowers pictures w is in rest (not_needed_at pictures w.place) (omega (arith, less, few))

-- no more are needed for output than may be reordered
few_needed : (reorder : ℕ) (size : Option ℕ) (n : ℕ) (pictures : List DpbPicture)
    → count_by is_needed_for_output pictures ≤ n
    → count_by is_needed_for_output (bumped_at_most reorder size n pictures).left ≤ reorder
few_needed reorder size zero pictures few = omega (arith, few)
few_needed reorder size (suc n) pictures few =
    few_by reorder size n pictures few (few_needed reorder size n) (needs_bumping reorder size pictures) refl
    (next_output pictures) refl

same_by : (reorder : ℕ) (size : Option ℕ) (n : ℕ) (pictures : List DpbPicture)
    → ((left : List DpbPicture)
    → count_by is_marked (bumped_at_most reorder size n left).left ≡ count_by is_marked left)
    → (needs : Bool) (next : Option NextOutput)
    → count_by is_marked
    (if needs then next_from pictures next (bumped_at_most reorder size n) else none_out pictures).left
    ≡ count_by is_marked pictures
same_by reorder size n pictures rest false next = refl
same_by reorder size n pictures rest true None = refl
same_by reorder size n pictures rest true (Some w) =
    rest (not_needed_at pictures w.place) ∙ not_needed_marks pictures w.place

-- marks stay where pictures go out
same_marks : (reorder : ℕ) (size : Option ℕ) (n : ℕ) (pictures : List DpbPicture)
    → count_by is_marked (bumped_at_most reorder size n pictures).left ≡ count_by is_marked pictures
same_marks reorder size zero pictures = refl
same_marks reorder size (suc n) pictures =
    same_by reorder size n pictures (same_marks reorder size n) (needs_bumping reorder size pictures)
    (next_output pictures)

bumped_marks : (reorder : ℕ) (size : Option ℕ) (pictures : List DpbPicture)
    → count_by is_marked (bumped reorder size pictures).left ≡ count_by is_marked pictures
unfolding bumped
bumped_marks reorder size pictures = same_marks reorder size (length pictures) pictures

pub few_bumped : (reorder : ℕ) (size : Option ℕ) (pictures : List DpbPicture)
    → count_by is_needed_for_output (bumped reorder size pictures).left ≤ reorder
unfolding bumped
few_bumped reorder size pictures =
    few_needed reorder size (length pictures) pictures (count_by-le-length is_needed_for_output pictures)

started_by : (current : CurrentPicture) (pictures : List DpbPicture) (anew discards : Bool)
    → count_by is_marked (if anew
    then (if discards then none_out (discarded pictures) else bumped 0 None pictures)
    else bumped current.ordering.max_num_reorder_pics
    (Some (current.ordering.max_dec_pic_buffering_minus1 + 1)) pictures).left
    ≡ count_by is_marked pictures
started_by current pictures true true = discarded_marks pictures
started_by current pictures true false = bumped_marks 0 None pictures
started_by current pictures false discards =
    bumped_marks current.ordering.max_num_reorder_pics
    (Some (current.ordering.max_dec_pic_buffering_minus1 + 1)) pictures

pub started_marks : (current : CurrentPicture) (pictures : List DpbPicture)
    → count_by is_marked (started current pictures).left ≡ count_by is_marked pictures
unfolding started
started_marks current pictures = started_by current pictures current.begins_anew current.no_output_of_prior_pics_flag

few_ended : (current : CurrentPicture) (pictures : List DpbPicture)
    → length (filter is_kept (ended current pictures).left)
    ≤ count_by is_marked pictures + 1 + current.ordering.max_num_reorder_pics
unfolding ended
few_ended current pictures =
    let left : List DpbPicture = (bumped current.ordering.max_num_reorder_pics None (entered current pictures)).left in
    let same = length-filter is_kept left in
    let either = kept_either left in
    let few = few_bumped current.ordering.max_num_reorder_pics None (entered current pictures) in
    let marks = bumped_marks current.ordering.max_num_reorder_pics None (entered current pictures) in
    let one = entered_marks current pictures in
    omega (arith, same, either, few, marks, one)

pub few_stay : (current : CurrentPicture) (dpb : List DpbPicture) (marks : List Mark)
    → length (outputs_of current dpb marks).dpb
    ≤ count_by is_reference marks + 1 + current.ordering.max_num_reorder_pics
unfolding outputs_of
few_stay current dpb marks =
    let begun = started current (all_marked dpb marks) in
    let few = few_ended current begun.left in
    let same = started_marks current (all_marked dpb marks) in
    let named = few_marked dpb marks in
    omega (arith, few, same, named)
