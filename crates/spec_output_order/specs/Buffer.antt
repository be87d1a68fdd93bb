-- The decoded picture buffer by itself: a picture starts and is placed, and at the end of the input all go out (C.5.2).
use Rattle.std.specs.Prelude.{◌≡◌, ℕ, ◌+◌, ◌≤◌, Bool, List, [], ◌∷◌, ◌++◌, map, length, slice_index_or, Option, None}
use Rattle.std.specs.Prelude.{Some, Result, Ok, Err, if◌then◌else◌}
use Rattle.std.specs.List.{filter}
use Rattle.hv_base.specs.declared.fault.FaultKind.{FaultKind}
use Rattle.hv_base.specs.declared.fault.FaultKind.TheVariants as rule
use Rattle.hv_base.specs.declared.refusal.Refusal.{Refusal}
use Rattle.hv_base.specs.declared.refusal.Refusal.TheVariants as refusal
use Rattle.header_types.specs.declared.reference_pictures.DpbPicture.{DpbPicture}
use Rattle.header_types.specs.declared.reference_pictures.Mark.{Mark}
use Rattle.spec_output_order.specs.declared.current_picture.CurrentPicture.{CurrentPicture}
use Rattle.spec_output_order.specs.OutputOrder.{Bumped, all_marked, bumped, is_full_of_references, is_kept, kept_from}
use Rattle.spec_output_order.specs.OutputOrder.{last_outputs, newest, outputs_by, started}
use Rattle.plan_types.specs.declared.outputs.Outputs.{Outputs}

-- its pictures in decoding order and, where a picture was started and isn't placed yet, how many may be reordered then
pub record Buffer : Type 0 where
  pub pictures : List DpbPicture
  pub started : Option ℕ

-- it holds as many pictures as any sequence parameter set allows, at most: one that was started has its place
abbrev pub HasPlaces : List DpbPicture → Option ℕ → Type 0
HasPlaces pictures None = length pictures ≤ 16
HasPlaces pictures (Some reorder) = length pictures ≤ 15

-- nothing goes out behind the picture
abbrev pub before_only : Bumped → Outputs
before_only b = record { before = b.out; behind = []; kept = kept_from 0 b.left; dpb = filter is_kept b.left }

-- a picture starts, which marks the pictures so: what goes out before it, and what stays (C.5.2.2)
unfoldable pub start_outputs : CurrentPicture → List DpbPicture → List Mark → Outputs
start_outputs current pictures marks = before_only (started current (all_marked pictures marks))

-- or the rule that it breaks
abbrev pub start_of : CurrentPicture → List DpbPicture → List Mark → Result Outputs FaultKind
start_of current pictures marks =
    if is_full_of_references current.begins_anew current.ordering marks then Err rule.DpbFull
    else Ok (start_outputs current pictures marks)

-- a picture is placed behind those that its start left: what goes out then, and what stays (C.5.2.3)
unfoldable pub place_outputs : ℕ → DpbPicture → List DpbPicture → Outputs
place_outputs reorder picture pictures = outputs_by [] (bumped reorder None (pictures ++ picture ∷ []))

-- all that are needed for output go out, and none stays
abbrev pub flush_outputs : List DpbPicture → Outputs
flush_outputs pictures = record { before = []; behind = last_outputs pictures; kept = []; dpb = [] }

-- what a call answered are these outputs or this broken rule; where memory ran out nothing is said
abbrev pub GivesOutputs : Result Outputs Refusal → Result Outputs FaultKind → Type 0
GivesOutputs (Ok o) expected = expected ≡ Ok o
GivesOutputs (Err refusal.Memory) expected = Unit {0}
GivesOutputs (Err (refusal.Fault kind)) expected = expected ≡ Err kind
GivesOutputs (Err (refusal.Limit kind)) expected = ⊥

-- the place, before a start, of a picture behind it: of the one that is placed that behind all of them
abbrev pub place_before : ℕ → List ℕ → ℕ → ℕ
place_before size kept place = slice_index_or kept place size

-- what a start and then a placing put out and leave, by the places in the buffer before both
abbrev pub start_then_place : ℕ → Outputs → Outputs → Outputs
start_then_place size s p = record {
  before = s.before;
  behind = map (place_before size s.kept) p.behind;
  kept = map (place_before size s.kept) p.kept;
  dpb = p.dpb;
}

-- a picture starts and then is placed
abbrev pub started_and_placed : CurrentPicture → List DpbPicture → List Mark → Outputs
started_and_placed current pictures marks =
    let s : Outputs = start_outputs current pictures marks in
    start_then_place (length pictures) s
    (place_outputs current.ordering.max_num_reorder_pics (newest current.poc current.pic_output_flag) s.dpb)
