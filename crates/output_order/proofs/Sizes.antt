-- How many pictures are in the buffer, and that a start doesn't ask for an order count.
use Rattle.std.proofs.Common.{◌≡◌, ℕ, ℤ, ◌+◌, ◌≤◌, true, false, List, length, Option, None, Some, Result, Ok, Err}
use Rattle.std.proofs.Common.{IfOk}
use Rattle.std.proofs.Common.{arith, refl}
use Rattle.std.specs.List.{count_by}
use Rattle.header_types.specs.declared.reference_pictures.DpbPicture.{DpbPicture}
use Rattle.header_types.specs.declared.reference_pictures.Mark.{Mark}
use Rattle.spec_output_order.specs.PlanTypes.{Outputs}
use Rattle.ref_picture_sets.specs.SpecReferencePictures.{is_reference}
use Rattle.spec_output_order.specs.declared.current_picture.CurrentPicture.{CurrentPicture}
use Rattle.spec_output_order.specs.Buffer.{HasPlaces, place_outputs, start_of, start_outputs}
use Rattle.spec_output_order.specs.OutputOrder.{is_full_of_references, started}
use Rattle.spec_output_order.proofs.Room.{place_takes_one, start_leaves_room}

-- where there is room for a picture, its start leaves a place
pub start_room : {E : Type 0} (current : CurrentPicture) (pictures : List DpbPicture) (marks : List Mark)
    (r : Result Outputs E)
    → IfOk r (λ (o : Outputs). o ≡ start_outputs current pictures marks)
    → is_full_of_references current.begins_anew current.ordering marks ≡ false
    → (current.begins_anew ≡ true → count_by is_reference marks ≡ 0)
    → IfOk r (λ (o : Outputs). length o.dpb ≤ current.ordering.max_dec_pic_buffering_minus1)
start_room current pictures marks (Ok o) is room anew = rw is (start_leaves_room current pictures marks room anew)
start_room current pictures marks (Err e) is room anew = tt

-- a picture takes one place
pub place_room : {E : Type 0} (reorder : ℕ) (picture : DpbPicture) (pictures : List DpbPicture) (r : Result Outputs E)
    → IfOk r (λ (o : Outputs). o ≡ place_outputs reorder picture pictures)
    → IfOk r (λ (o : Outputs). length o.dpb ≤ length pictures + 1)
place_room reorder picture pictures (Ok o) is = rw is (place_takes_one reorder picture pictures)
place_room reorder picture pictures (Err e) is = tt

-- where a picture was started there is a place
pub one_less : (pictures : List DpbPicture) (started : Option ℕ) → (started ≡ None → ⊥) → HasPlaces pictures started
    → length pictures ≤ 15
one_less pictures None is few = absurd (is refl)
one_less pictures (Some reorder) is few = few

pub any_count : (current : CurrentPicture) (poc : ℤ) (pictures : List DpbPicture) (marks : List Mark)
    → start_of (record (current) { poc = poc }) pictures marks ≡ start_of current pictures marks
unfolding start_outputs started
any_count current poc pictures marks = refl
