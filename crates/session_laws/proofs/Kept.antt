-- Behind each planned picture no more pictures stay than the buffer holds, which is 16 at most.
use Rattle.std.proofs.Common.{◌≡◌, ℕ, ℤ, ◌-◌, ◌≤◌, Bool, true, false, List, [], ◌∷◌, length, Option, Some, None}
use Rattle.std.proofs.Common.{IfOk, IfSome, option_map, if◌then◌else◌, Result, Ok, Err, refl, sym, subst, arith}
use Rattle.std.specs.Prelude.{nat_lt}
use Rattle.std.specs.List.{All, count_by}
use Rattle.std.proofs.lemmas.List.Elements.{All-append, All-cons, All-get_or, All-nil}
use Rattle.hv_base.specs.declared.breach.Breach.{Breach}
use Rattle.hv_base.specs.declared.fault.Fault.{Fault}
use Rattle.hv_base.specs.declared.fault.FaultKind.{FaultKind}
use Rattle.hv_base.specs.declared.refusal.Stop.{Stop}
use Rattle.header_types.specs.declared.former.Former.{Former}
use Rattle.header_types.specs.declared.former.Sets.{Sets}
use Rattle.header_types.specs.declared.reference_pictures.DpbPicture.{DpbPicture}
use Rattle.header_types.specs.declared.reference_pictures.Mark.{Mark}
use Rattle.header_types.specs.declared.reference_pictures.Rps.{Rps}
use Rattle.header_types.specs.declared.sps.SpsFields.{SpsFields}
use Rattle.header_types.specs.SequenceParameterSets.{IsSps, IsSubLayerOrdering, highest_ordering, no_ordering}
use Rattle.slice_types.specs.declared.slice.SliceHeaderFields.{SliceHeaderFields}
use Rattle.plan_types.specs.declared.between.Between.{Between}
use Rattle.plan_types.specs.declared.picture_plan.PicturePlan.{PicturePlan}
use Rattle.spec_nal_units.specs.Judged.{NalUnit, Told}
use Rattle.spec_parameter_sets.specs.PictureParameterSet.{picture_parameter_set_of}
use Rattle.spec_parameter_sets.specs.SequenceParameterSet.{sequence_parameter_set_of}
use Rattle.spec_reference_pictures.specs.PictureOrderCount.{pic_order_cnt_val}
use Rattle.spec_reference_pictures.specs.ReferencePictureSet.{is_reference, reference_picture_set}
use Rattle.spec_slice_headers.specs.NamedSets.{Named, named_by}
use Rattle.spec_output_order.specs.declared.current_picture.CurrentPicture.{CurrentPicture}
use Rattle.spec_output_order.specs.CurrentPictures.{current_picture}
use Rattle.spec_output_order.specs.OutputOrder.{is_full_of_references, outputs_of, size_of}
use Rattle.spec_output_order.proofs.Anew.{anew_marks_none}
use Rattle.spec_output_order.proofs.Fates.{in_range}
use Rattle.spec_output_order.proofs.Room.{fits}
use Rattle.spec_picture_plan.specs.declared.unit_kind.UnitKind.{UnitKind}
use Rattle.spec_picture_plan.specs.declared.unit_kind.UnitKind.TheVariants as unit
use Rattle.spec_picture_plan.specs.Closing.{broken_at_closing, broken_in, full_at, is_buffer_full, or_later}
use Rattle.spec_picture_plan.specs.Pictures.{beginning}
use Rattle.spec_picture_plan.specs.Planned.{Planned, planned_end, planned_from, planned_next}
use Rattle.spec_picture_plan.specs.Steps.{Stepped, begun, behind_read, close, closed_by, closed_open, continued}
use Rattle.spec_picture_plan.specs.Steps.{continued_by, continuing, joined, judged_header, opened_by, opening}
use Rattle.spec_picture_plan.specs.Steps.{picture_of, put_pps, put_sps, slice_judged, step, then_next, with_hashes}
use Rattle.spec_picture_plan.specs.Steps.{with_order, with_set, with_sets}
use Rattle.spec_picture_plan.specs.UnitKinds.{kind_of_type}
use Rattle.plan_laws.specs.Plans.{IsPlan}
use Rattle.plan_laws.proofs.Stream.{units_in_range}
use Rattle.spec_decoder.specs.Trail.{closed_first, closes, is_dropped, kind_judged, unit_judged}
use Rattle.spec_decoder.proofs.InOrder.{step_parts}

-- how many pictures the buffer of a picture holds
abbrev size_for : SpsFields → ℕ
size_for sps = size_of (highest_ordering sps.order.sub_layer_ordering)

-- no more pictures stay behind a picture than the buffer holds
abbrev StaysWithin : PicturePlan → Type 0
StaysWithin p = length p.outputs.kept ≤ size_for p.sps

-- so it is where the buffer has room for it
abbrev FitsIn : PicturePlan → Type 0
FitsIn p = is_buffer_full p ≡ false → StaysWithin p

-- what is known between two units: the open picture, if there is one, is such
abbrev IsBegun : Between → Type 0
IsBegun s = IfSome s.picture FitsIn

abbrev IsNext : Result Between Stop → Type 0
IsNext (Ok n) = IsBegun n
IsNext (Err e) = Unit {0}

record IsStep (t : Stepped) : Type 0 where
  closed : All StaysWithin t.closed
  next : IsNext t.next

-- ---- a picture that is opened, or goes on

outputs_fit : (current : CurrentPicture) (dpb : List DpbPicture) (marks : List Mark)
    → (current.begins_anew ≡ true → count_by is_reference marks ≡ 0)
    → is_full_of_references current.begins_anew current.ordering marks ≡ false
    → length (outputs_of current dpb marks).kept ≤ size_of current.ordering
outputs_fit current dpb marks anew room =
    let same = (in_range current dpb marks).same in
    let few = fits current dpb marks room anew in
    omega (arith, same, few)

set_fits : (dpb : List DpbPicture) (u : NalUnit) (h : SliceHeaderFields) (n : Named) (poc : ℤ)
    (r : Result Rps FaultKind)
    → reference_picture_set h.kind h.slice.references poc dpb ≡ r → IfOk (with_set dpb u h n poc r) FitsIn
set_fits dpb u h n poc (Err e) found = tt
set_fits dpb u h n poc (Ok rps) found =
    outputs_fit (current_picture h n.sps poc) dpb rps.marks
    (λ anew. anew_marks_none h.kind h.slice.references poc dpb rps anew found)

order_fits : (former : Former) (u : NalUnit) (h : SliceHeaderFields) (n : Named) (r : Result ℤ FaultKind)
    → IfOk (with_order former u h n r) FitsIn
order_fits former u h n (Err e) = tt
order_fits former u h n (Ok poc) =
    set_fits former.dpb u h n poc (reference_picture_set h.kind h.slice.references poc former.dpb) refl

sets_fit : (former : Former) (u : NalUnit) (h : SliceHeaderFields) (o : Option Named)
    → IfOk (with_sets former u h o) FitsIn
sets_fit former u h None = tt
sets_fit former u h (Some n) =
    order_fits former u h n
    (pic_order_cnt_val h.kind h.slice.references.slice_pic_order_cnt_lsb former.prev_tid0_pic_order_cnt)

picture_fits : (sets : Sets) (former : Former) (u : NalUnit) (h : SliceHeaderFields)
    → IfOk (picture_of sets former u h) FitsIn
unfolding picture_of
picture_fits sets former u h = sets_fit former u h (named_by sets h.segment.slice_pic_parameter_set_id)

opened_fits : (sets : Sets) (former : Former) (u : NalUnit) (r : Result SliceHeaderFields Breach)
    → IfOk (opened_by sets former u r) FitsIn
opened_fits sets former u (Err e) = tt
opened_fits sets former u (Ok h) = picture_fits sets former u h

opening_fits : (sets : Sets) (former : Former) (u : NalUnit) → IfOk (opening sets former u) FitsIn
unfolding opening
opening_fits sets former u = opened_fits sets former u (judged_header sets former [] u)

continued_fits : (former : Former) (u : NalUnit) (p : PicturePlan) (r : Result SliceHeaderFields Breach) → FitsIn p
    → IfOk (continued_by former u p r) FitsIn
continued_fits former u p (Err e) is = tt
continued_fits former u p (Ok h) is = is

continuing_fits : (sets : Sets) (former : Former) (u : NalUnit) (p : PicturePlan) → FitsIn p
    → IfOk (continuing sets former u p) FitsIn
unfolding continuing
continuing_fits sets former u p is = continued_fits former u p (judged_header sets former p.segments u) is

-- ---- a unit by itself

read_next : {X : Type 0} (nal : ℕ) (r : Result X Breach) (f : X → Between) → IfOk r (λ x. IsBegun (f x))
    → IsNext (behind_read nal r f)
read_next nal (Ok x) f is = is
read_next nal (Err e) f is = tt

set_next : {X : Type 0} (nal : ℕ) (r : Result X Breach) (f : X → Between) → ((x : X) → IsBegun (f x))
    → IsNext (behind_read nal r f)
set_next nal (Ok x) f is = is x
set_next nal (Err e) f is = tt

joined_next : (u : NalUnit) (s : Between) (o : Option PicturePlan) → IfSome o FitsIn → IsNext (joined u s o)
joined_next u s None is =
    read_next u.index (opening s.sets s.former u) (begun s) (opening_fits s.sets s.former u)
joined_next u s (Some p) is =
    read_next u.index (continuing s.sets s.former u p) (continued s) (continuing_fits s.sets s.former u p is)

judged_next : (u : NalUnit) (s : Between) → IsBegun s → IsNext (slice_judged u s)
unfolding slice_judged
judged_next u s is = joined_next u s s.picture is

slice_next : (u : NalUnit) (s : Between) (dropped : Bool) → IsBegun s
    → IsNext (if dropped then Ok s else slice_judged u s)
slice_next u s true is = is
slice_next u s false is = judged_next u s is

-- hashes that are stated change nothing of what stays
informed_fits : (u : NalUnit) (o : Option PicturePlan) → IfSome o FitsIn → IfSome (option_map (with_hashes u) o) FitsIn
informed_fits u None is = tt
informed_fits u (Some p) is = is

kind_next : (u : NalUnit) (kind : UnitKind) (s : Between) → IsBegun s → IsNext (kind_judged u kind s)
kind_next u unit.Slice s is = slice_next u s (is_dropped s u) is
kind_next u unit.SequenceSet s is =
    set_next u.index (sequence_parameter_set_of u.payload) (put_sps s) (λ sps. is)
kind_next u unit.PictureSet s is =
    set_next u.index (picture_parameter_set_of u.payload) (put_pps s) (λ pps. is)
kind_next u unit.SequenceEnd s is = is
kind_next u unit.Border s is = is
kind_next u unit.SuffixInformation s is = informed_fits u s.picture is
kind_next u unit.Other s is = is

layer_next : (u : NalUnit) (s : Between) (above : Bool) → IsBegun s
    → IsNext (if above then Ok s else kind_judged u (kind_of_type u.nal_type) s)
layer_next u s true is = is
layer_next u s false is = kind_next u (kind_of_type u.nal_type) s is

unit_next : (t : Told) (s : Between) → IsBegun s → IsNext (unit_judged t s)
unit_next (Told.Whole u) s is = layer_next u s (nat_lt 0 u.layer) is
unit_next (Told.Broken f) s is = tt
unit_next (Told.Met l) s is = tt

-- ---- what a unit closes

no_later : (first later : Option Fault) → or_later first later ≡ None → later ≡ None
no_later None later e = e
no_later (Some f) later e = absurd cc

has_room : (full : Bool) (f : Fault) → (if full then Some f else None) ≡ None → full ≡ false
has_room true f e = absurd cc
has_room false f e = refl

closed_within : (p : PicturePlan) → FitsIn p → broken_at_closing p ≡ None → StaysWithin p
closed_within p fit e = fit (has_room (is_buffer_full p) _ (no_later (broken_in p) (full_at p) e))

by_is : (s : Between) (p : PicturePlan) (f : Option Fault) → broken_at_closing p ≡ f → FitsIn p
    → IsStep (closed_by s p f)
by_is s p None e fit = record {
  closed = All-cons StaysWithin p [] (closed_within p fit e) (All-nil StaysWithin);
  next = tt;
}
by_is s p (Some f) e fit = record { closed = All-nil StaysWithin; next = tt }

open_is : (s : Between) (o : Option PicturePlan) → IsBegun s → IfSome o FitsIn → IsStep (closed_open s o)
open_is s None is fit = record { closed = All-nil StaysWithin; next = is }
open_is s (Some p) is fit = by_is s p (broken_at_closing p) refl fit

close_is : (s : Between) → IsBegun s → IsStep (close s)
unfolding close
close_is s is = open_is s s.picture is is

then_is : (closed : List PicturePlan) (next : Result Between Stop) (f : Between → Result Between Stop)
    → All StaysWithin closed → IsNext next → ((n : Between) → IsBegun n → IsNext (f n))
    → IsStep (then_next closed next f)
then_is closed (Ok n) f each is keeps = record { closed = each; next = keeps n is }
then_is closed (Err e) f each is keeps = record { closed = each; next = tt }

first_is : (c : Bool) (s : Between) (f : Between → Result Between Stop) → IsBegun s
    → ((n : Between) → IsBegun n → IsNext (f n)) → IsStep (closed_first c s f)
first_is true s f is keeps =
    let c = close_is s is in then_is (close s).closed (close s).next f c.closed c.next keeps
first_is false s f is keeps = record { closed = All-nil StaysWithin; next = keeps s is }

step_is : (s : Between) (t : Told) → IsBegun s → IsStep (step s t)
step_is s t is = subst IsStep (sym (step_parts s t)) (first_is (closes s t) s (unit_judged t) is (unit_next t))

-- ---- all units

end_is : (ended : Bool) (s : Between) → IsBegun s → All StaysWithin (planned_end ended s).pictures
end_is true s is = (close_is s is).closed
end_is false s is = All-nil StaysWithin

next_is : (next : Result Between Stop) (f : Between → Planned) → IsNext next
    → ((n : Between) → IsBegun n → All StaysWithin (f n).pictures) → All StaysWithin (planned_next next f).pictures
next_is (Ok n) f is later = later n is
next_is (Err e) f is later = All-nil StaysWithin

from_is : (ended : Bool) (s : Between) (ts : List Told) → IsBegun s → All StaysWithin (planned_from ended s ts).pictures
from_is ended s [] is = end_is ended s is
from_is ended s (t ∷ ts) is =
    let own = step_is s t is in
    All-append StaysWithin (step s t).closed
    (planned_next (step s t).next (λ n. planned_from ended n ts)).pictures own.closed
    (next_is (step s t).next (λ n. planned_from ended n ts) own.next (λ n ok. from_is ended n ts ok))

begins : IsBegun beginning
unfolding beginning
begins = tt

few_places : (sps : SpsFields) → IsSps sps → size_for sps ≤ 16
unfolding highest_ordering
few_places sps is =
    let orderings = sps.order.sub_layer_ordering in
    let some = is.order.some_ordering in
    let few =
    (All-get_or IsSubLayerOrdering orderings (length orderings - 1) no_ordering (omega (arith, some))
    is.order.ordering).buffering in
    omega (arith, few)

few_kept : (p : PicturePlan) → IsPlan p → StaysWithin p → length p.outputs.kept ≤ 16
few_kept p is within = let few = few_places p.sps is.sps in omega (arith, few, within)

pub few_are_kept : (ended : Bool) (told : List Told)
    → All (λ (p : PicturePlan). length p.outputs.kept ≤ 16) (planned_from ended beginning told).pictures
few_are_kept ended told k d lt =
    few_kept _ (units_in_range ended told k d lt) (from_is ended beginning told begins k d lt)
