-- A buffer that isn't full of references has room for the current picture.
use Rattle.std.proofs.Common.{◌≡◌, ◌∙◌, ℕ, zero, suc, ◌+◌, ◌<◌, ◌≤◌, inl, inr, Bool, true, false, ◌||◌, cond, List}
use Rattle.std.proofs.Common.{[]}
use Rattle.std.proofs.Common.{◌∷◌, ◌++◌, length, Option, Some, None, nat_lt, nat_le, arith, refl, ap}
use Rattle.std.specs.List.{count_by, filter}
use Rattle.std.proofs.lemmas.Bool.{cases_Bool, leb-false, or_parts}
use Rattle.std.proofs.lemmas.List.Sums.{count_by-le-length, length-filter, sum_by_push}
use Rattle.header_types.specs.declared.reference_pictures.DpbPicture.{DpbPicture}
use Rattle.header_types.specs.declared.reference_pictures.Mark.{Mark}
use Rattle.header_types.specs.declared.sps.SubLayerOrdering.{SubLayerOrdering}
use Rattle.spec_reference_pictures.specs.ReferencePictureSet.{is_reference}
use Rattle.spec_output_order.specs.declared.current_picture.CurrentPicture.{CurrentPicture}
use Rattle.spec_output_order.specs.OutputOrder.{NoneNeededForOutput, all_marked, bumped, ended, is_full}
use Rattle.spec_output_order.specs.OutputOrder.{is_full_of_references, is_kept, is_needed_for_output, needs_bumping}
use Rattle.spec_output_order.specs.OutputOrder.{newest, not_needed, not_needed_at, outputs_of, size_of, started}
use Rattle.spec_output_order.specs.Buffer.{place_outputs, start_outputs}
use Rattle.spec_output_order.specs.Waiting.{HasRoom, IsBumping}
use Rattle.spec_output_order.proofs.AtOnce.{none_count}
use Rattle.spec_output_order.proofs.Bounds.{started_anew, started_room}
use Rattle.spec_output_order.proofs.Bumping.{started_marks}
use Rattle.spec_output_order.proofs.Counts.{count-cons, few_marked, is_marked, kept_either}
use Rattle.spec_output_order.proofs.FirstForOutput.{bumps}

-- ---- bumping keeps no more pictures

mark_alone : (a b : Bool) → cond b 1 0 ≤ cond (a || b) 1 0
mark_alone true true = omega arith
mark_alone true false = omega arith
mark_alone false b = omega arith

fewer_kept : (pictures : List DpbPicture) (k : ℕ)
    → count_by is_kept (not_needed_at pictures k) ≤ count_by is_kept pictures
fewer_kept [] k = omega arith
fewer_kept (p ∷ pictures) zero =
    let one = count-cons is_kept (not_needed p) pictures in
    let all = count-cons is_kept p pictures in
    let here = mark_alone p.needed_for_output (is_reference p.mark) in
    omega (arith, one, all, here)
fewer_kept (p ∷ pictures) (suc k) =
    let one = count-cons is_kept p (not_needed_at pictures k) in
    let all = count-cons is_kept p pictures in
    let rest = fewer_kept pictures k in
    omega (arith, one, all, rest)

run_kept : (reorder : ℕ) (size : Option ℕ) (pictures : List DpbPicture) (out : List ℕ) (left : List DpbPicture)
    → IsBumping reorder size pictures out left → count_by is_kept left ≤ count_by is_kept pictures
run_kept reorder size pictures [] left run =
    let same : count_by is_kept left ≡ count_by is_kept pictures =
    ap (λ (ps : List DpbPicture). count_by is_kept ps) run.0 in
    omega (arith, same)
run_kept reorder size pictures (k ∷ out) left run =
    let rest = run_kept reorder size (not_needed_at pictures k) out left run.2 in
    let less = fewer_kept pictures k in
    omega (arith, rest, less)

one_at_most : (b : Bool) → cond b 1 0 ≤ 1
one_at_most true = omega arith
one_at_most false = omega arith

-- one picture more stays where one is placed
placed_kept : (reorder : ℕ) (picture : DpbPicture) (pictures : List DpbPicture)
    → length (filter is_kept (bumped reorder None (pictures ++ picture ∷ [])).left) ≤ count_by is_kept pictures + 1
placed_kept reorder picture pictures =
    let b = bumped reorder None (pictures ++ picture ∷ []) in
    let same = length-filter is_kept b.left in
    let less =
    run_kept reorder None (pictures ++ picture ∷ []) b.out b.left (bumps reorder None (pictures ++ picture ∷ [])) in
    let more = sum_by_push (λ p. cond (is_kept p) 1 0) pictures picture in
    let one = one_at_most (is_kept picture) in
    omega (arith, same, less, more, one)

-- ---- a start leaves room

kept_at_most_marked : (pictures : List DpbPicture) → NoneNeededForOutput pictures
    → count_by is_kept pictures ≤ count_by is_marked pictures
kept_at_most_marked pictures quiet =
    let either = kept_either pictures in
    let none = none_count pictures quiet in
    omega (arith, either, none)

room_by : (reorder size : ℕ) (left : List DpbPicture) → count_by is_marked left < size
    → HasRoom reorder (Some size) left → count_by is_kept left < size
unfolding needs_bumping
room_by reorder size left few (inl room) =
    leb-false size (count_by is_kept left)
    (or_parts (nat_lt reorder (count_by is_needed_for_output left)) (is_full (Some size) left) room).1
room_by reorder size left few (inr none) = let kept = kept_at_most_marked left none in omega (arith, kept, few)

few_references : (ordering : SubLayerOrdering) (marks : List Mark) → is_full_of_references false ordering marks ≡ false
    → count_by is_reference marks < size_of ordering
unfolding is_full_of_references
few_references ordering marks room = leb-false (size_of ordering) (count_by is_reference marks) room

left_marks : (current : CurrentPicture) (dpb : List DpbPicture) (marks : List Mark)
    → count_by is_marked (started current (all_marked dpb marks)).left ≤ count_by is_reference marks
left_marks current dpb marks =
    let same = started_marks current (all_marked dpb marks) in
    let few = few_marked dpb marks in
    omega (arith, same, few)

start_kept : (current : CurrentPicture) (dpb : List DpbPicture) (marks : List Mark)
    → is_full_of_references current.begins_anew current.ordering marks ≡ false
    → (current.begins_anew ≡ true → count_by is_reference marks ≡ 0)
    → count_by is_kept (started current (all_marked dpb marks)).left < size_of current.ordering
start_kept current dpb marks room anew =
    let left = (started current (all_marked dpb marks)).left in
    let few = left_marks current dpb marks in
    elim (cases_Bool current.begins_anew) [
      | inl is ↦
          let kept = kept_at_most_marked left (started_anew current (all_marked dpb marks) is) in
          let none = anew is in
          omega (arith, kept, few, none)
      | inr is ↦
          let room' = rw is at room in
          let least = few_references current.ordering marks room' in
          room_by current.ordering.max_num_reorder_pics (size_of current.ordering) left (omega (arith, few, least))
          (started_room current (all_marked dpb marks) is)
    ]

pub start_leaves_room : (current : CurrentPicture) (dpb : List DpbPicture) (marks : List Mark)
    → is_full_of_references current.begins_anew current.ordering marks ≡ false
    → (current.begins_anew ≡ true → count_by is_reference marks ≡ 0)
    → length (start_outputs current dpb marks).dpb ≤ current.ordering.max_dec_pic_buffering_minus1
unfolding start_outputs
start_leaves_room current dpb marks room anew =
    let kept = start_kept current dpb marks room anew in
    let same = length-filter is_kept (started current (all_marked dpb marks)).left in
    omega (arith, kept, same)

pub place_takes_one : (reorder : ℕ) (picture : DpbPicture) (pictures : List DpbPicture)
    → length (place_outputs reorder picture pictures).dpb ≤ length pictures + 1
unfolding place_outputs
place_takes_one reorder picture pictures =
    let more = placed_kept reorder picture pictures in
    let few = count_by-le-length is_kept pictures in
    omega (arith, more, few)

pub fits : (current : CurrentPicture) (dpb : List DpbPicture) (marks : List Mark)
    → is_full_of_references current.begins_anew current.ordering marks ≡ false
    → (current.begins_anew ≡ true → count_by is_reference marks ≡ 0)
    → length (outputs_of current dpb marks).dpb ≤ size_of current.ordering
unfolding outputs_of ended
fits current dpb marks room anew =
    let left = (started current (all_marked dpb marks)).left in
    let kept = start_kept current dpb marks room anew in
    let more = placed_kept current.ordering.max_num_reorder_pics (newest current.poc current.pic_output_flag) left in
    omega (arith, kept, more)
