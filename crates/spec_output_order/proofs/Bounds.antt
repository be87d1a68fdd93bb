-- The buffer behind each step of output: it has room, or no picture of it waits.
use Rattle.std.proofs.Common.{◌≡◌, ◌∙◌, ℕ, ◌+◌, ◌<◌, ◌≤◌, inl, inr, Bool, true, false, cond, List, [], ◌∷◌, length}
use Rattle.std.proofs.Common.{Option, Some, None, if◌then◌else◌, nat_lt, arith, refl, sym, subst}
use Rattle.std.specs.List.{All, count_by, filter}
use Rattle.std.proofs.lemmas.Bool.{cases_Bool, ltb-false, or_parts, true≢false}
use Rattle.header_types.specs.declared.reference_pictures.DpbPicture.{DpbPicture}
use Rattle.header_types.specs.declared.reference_pictures.Mark.{Mark}
use Rattle.spec_reference_pictures.specs.ReferencePictureSet.{is_reference, no_picture}
use Rattle.spec_output_order.specs.declared.current_picture.CurrentPicture.{CurrentPicture}
use Rattle.spec_output_order.specs.OutputOrder.{NoneNeededForOutput, all_marked, bumped, discarded, ended, entered}
use Rattle.spec_output_order.specs.OutputOrder.{is_full, is_kept, is_needed_for_output, last_outputs, needs_bumping}
use Rattle.spec_output_order.specs.OutputOrder.{none_out, not_needed_at, outputs_of, started}
use Rattle.spec_output_order.specs.Waiting.{GoesOutOnce, HasRoom, IsBumping, picture_at, times_in}
use Rattle.spec_output_order.proofs.AtOnce.{discarded_none}
use Rattle.spec_output_order.proofs.Bumping.{few_bumped}
use Rattle.spec_output_order.proofs.Counts.{count-cons}
use Rattle.spec_output_order.proofs.Fates.{need, need_none, need_one, run_counts, run_inside, waits_by}
use Rattle.spec_output_order.proofs.FirstForOutput.{bumps, none_by_count}

run_room : (reorder : ℕ) (size : Option ℕ) (pictures : List DpbPicture) (out : List ℕ) (left : List DpbPicture)
    → IsBumping reorder size pictures out left → HasRoom reorder size left
run_room reorder size pictures [] left run = subst (HasRoom reorder size) (sym run.0) run.1
run_room reorder size pictures (k ∷ out) left run = run_room reorder size (not_needed_at pictures k) out left run.2

-- where none may be reordered, room is that none waits
none_waits_in : (size : Option ℕ) (left : List DpbPicture) → HasRoom 0 size left → NoneNeededForOutput left
unfolding needs_bumping
none_waits_in size left (inl room) =
    none_by_count left
    (ltb-false 0 (count_by is_needed_for_output left)
    (or_parts (nat_lt 0 (count_by is_needed_for_output left)) (is_full size left) room).0)
none_waits_in size left (inr none) = none

bumped_out : (pictures : List DpbPicture) → NoneNeededForOutput (bumped 0 None pictures).left
bumped_out pictures =
    none_waits_in None (bumped 0 None pictures).left (run_room 0 None pictures _ _ (bumps 0 None pictures))

-- ---- before the current picture is decoded

anew_by : (pictures : List DpbPicture) (discards : Bool)
    → NoneNeededForOutput (if discards then none_out (discarded pictures) else bumped 0 None pictures).left
anew_by pictures true = discarded_none pictures
anew_by pictures false = bumped_out pictures

pub started_anew : (current : CurrentPicture) (pictures : List DpbPicture) → current.begins_anew ≡ true
    → NoneNeededForOutput (started current pictures).left
unfolding started
started_anew current pictures anew = rw anew (anew_by pictures current.no_output_of_prior_pics_flag)

pub started_room : (current : CurrentPicture) (pictures : List DpbPicture) → current.begins_anew ≡ false
    → HasRoom current.ordering.max_num_reorder_pics (Some (current.ordering.max_dec_pic_buffering_minus1 + 1))
    (started current pictures).left
unfolding started
started_room current pictures goes_on =
    let reorder = current.ordering.max_num_reorder_pics in
    let size : Option ℕ = Some (current.ordering.max_dec_pic_buffering_minus1 + 1) in
    rw goes_on (run_room reorder size pictures _ _ (bumps reorder size pictures))

-- ---- behind the current picture

-- all that are needed for output stay
kept_needed : (pictures : List DpbPicture)
    → count_by is_needed_for_output (filter is_kept pictures) ≡ count_by is_needed_for_output pictures
kept_needed [] = refl
kept_needed (p ∷ pictures) =
    let all = count-cons is_needed_for_output p pictures in
    let rest = kept_needed pictures in
    elim (cases_Bool (is_kept p)) [
      | inl kept ↦
          let more = count-cons is_needed_for_output p (filter is_kept pictures) in
          rw kept (omega (arith, all, rest, more))
      | inr gone ↦
          let no_need = (or_parts p.needed_for_output (is_reference p.mark) gone).0 in
          let none : ◌≡◌ {A = ℕ} (cond p.needed_for_output 1 0) 0 = rw no_need refl in
          rw gone (omega (arith, all, rest, none))
    ]

pub few_wait : (current : CurrentPicture) (dpb : List DpbPicture) (marks : List Mark)
    → count_by is_needed_for_output (outputs_of current dpb marks).dpb ≤ current.ordering.max_num_reorder_pics
unfolding outputs_of ended
few_wait current dpb marks =
    let s = started current (all_marked dpb marks) in
    let few = few_bumped current.ordering.max_num_reorder_pics None (entered current s.left) in
    let same = kept_needed (bumped current.ordering.max_num_reorder_pics None (entered current s.left)).left in
    omega (arith, few, same)

-- ---- where the input ends

last_counts : (dpb : List DpbPicture) (place : ℕ) → times_in place (last_outputs dpb) ≡ need dpb place
unfolding last_outputs
last_counts dpb place =
    let counts = run_counts 0 None dpb _ _ (bumps 0 None dpb) place in
    let none : need (bumped 0 None dpb).left place ≡ 0 =
    elim (cases_Bool (picture_at (bumped 0 None dpb).left place).needed_for_output) [
      | inl needed ↦
          let w = waits_by (bumped 0 None dpb).left place needed in
          absurd (true≢false (sym needed ∙ bumped_out dpb place no_picture w.inside))
      | inr no_need ↦ need_none (bumped 0 None dpb).left place no_need
    ] in
    omega (arith, counts, none)

pub last_once : (dpb : List DpbPicture) (place : ℕ) → GoesOutOnce dpb (last_outputs dpb) place
last_once dpb place =
    let counts = last_counts dpb place in
    record {
      once = λ w. let one = need_one dpb place w in omega (arith, counts, one);
      only = λ quiet. elim (cases_Bool (picture_at dpb place).needed_for_output) [
        | inl needed ↦ absurd (quiet (waits_by dpb place needed))
        | inr no_need ↦ let none = need_none dpb place no_need in omega (arith, counts, none)
      ];
    }

pub last_inside : (dpb : List DpbPicture) → All (λ (k : ℕ). k < length dpb) (last_outputs dpb)
unfolding last_outputs
last_inside dpb = run_inside 0 None dpb _ _ (bumps 0 None dpb) (length dpb) refl
