-- All pictures that are planned of a stream are in range.
use Rattle.std.proofs.Common.{◌≡◌, ℕ, ℤ, Bool, true, false, ◌&&◌, List, [], ◌∷◌, Option, Some, None, IfSome}
use Rattle.std.proofs.Common.{option_map, if◌then◌else◌, Result, Ok, Err, refl, sym, subst}
use Rattle.std.specs.Prelude.{nat_lt}
use Rattle.std.specs.List.{All}
use Rattle.std.proofs.lemmas.List.Elements.{All-append, All-cons, All-nil, All-replicate, All-set}
use Rattle.hv_base.specs.declared.breach.Breach.{Breach}
use Rattle.hv_base.specs.declared.fault.Fault.{Fault}
use Rattle.hv_base.specs.declared.fault.FaultKind.{FaultKind}
use Rattle.hv_base.specs.declared.refusal.Stop.{Stop}
use Rattle.header_types.specs.declared.former.Sets.{Sets}
use Rattle.header_types.specs.declared.former.Former.{Former}
use Rattle.header_types.specs.declared.pps.PpsFields.{PpsFields}
use Rattle.header_types.specs.declared.reference_pictures.Rps.{Rps}
use Rattle.slice_types.specs.declared.slice.SliceHeaderFields.{SliceHeaderFields}
use Rattle.header_types.specs.declared.sps.SpsFields.{SpsFields}
use Rattle.header_types.specs.PictureParameterSet.{IsPps}
use Rattle.header_types.specs.SequenceParameterSets.{IsSps}
use Rattle.header_laws.specs.PlanTypes.{Between}
use Rattle.header_laws.specs.PlanTypes.{PicturePlan}
use Rattle.spec_bits.specs.Bits.{bits}
use Rattle.header_laws.specs.SpecNalUnits.{NalUnit, Told, told_of}
use Rattle.header_laws.specs.SpecParameterSets.{picture_parameter_set_of}
use Rattle.header_laws.specs.SpecParameterSets.{sequence_parameter_set_of}
use Rattle.spec_picture_plan.specs.SpecReferencePictures.{pic_order_cnt_val}
use Rattle.spec_picture_plan.specs.SpecReferencePictures.{reference_picture_set}
use Rattle.header_laws.specs.SpecSliceHeaders.{Named, named_by}
use Rattle.spec_picture_plan.specs.declared.unit_kind.UnitKind.{UnitKind}
use Rattle.spec_picture_plan.specs.declared.unit_kind.UnitKind.TheVariants as unit
use Rattle.spec_picture_plan.specs.UnitKinds.{is_rasl, kind_of_type}
use Rattle.spec_picture_plan.specs.Closing.{broken_at_closing, broken_in, full_at, or_later}
use Rattle.spec_picture_plan.specs.Pictures.{beginning}
use Rattle.spec_picture_plan.specs.Steps.{Stepped, begun, behind_read, close, closed_by, closed_open, closing}
use Rattle.spec_picture_plan.specs.Steps.{context_of, continued, continued_by, continuing, first_flag, goes_on}
use Rattle.spec_picture_plan.specs.Steps.{informed, joined, judged_header, kind_step, opened_by, opening, picture_of}
use Rattle.spec_picture_plan.specs.Steps.{put_pps, put_sps, sequence_end}
use Rattle.spec_picture_plan.specs.Steps.{slice_judged, slice_step, step, then_next, unit_step, with_order, with_set}
use Rattle.spec_picture_plan.specs.Steps.{with_hashes, with_sets}
use Rattle.spec_picture_plan.specs.Planned.{Planned, planned_end, planned_from, planned_next, planned_of}
use Rattle.spec_picture_plan.proofs.HeaderFacts.{judged_reads}
use Rattle.plan_laws.specs.Plans.{IsPlan}
use Rattle.header_laws.specs.Ranges.{AreSets}
use Rattle.header_laws.proofs.NamedSets.{named_is}
use Rattle.header_laws.proofs.Headers.{header_in_range}
use Rattle.header_laws.proofs.PictureSets.{picture_set_in_range}
use Rattle.plan_laws.proofs.Places.{first_is, later_is}
use Rattle.plan_laws.proofs.Plans.{IsOpen, are_there, continued_is, opened_is, plan_is, slices_in_range}
use Rattle.header_laws.proofs.SequenceSets.{sequence_set_in_range}

-- what is known between two units
record IsBetween (s : Between) : Type 0 where
  sets : AreSets s.sets
  picture : IfSome s.picture (IsOpen s.sets)

abbrev IsNext : Result Between Stop → Type 0
IsNext (Ok n) = IsBetween n
IsNext (Err e) = Unit {0}

record IsStep (t : Stepped) : Type 0 where
  closed : All IsPlan t.closed
  next : IsNext t.next

-- what is asked of a result, if there is one
abbrev IfOkIs : Result PicturePlan Breach → (PicturePlan → Type 0) → Type 0
IfOkIs (Ok p) P = P p
IfOkIs (Err e) P = Unit {0}

-- ---- closing

abbrev IsClosedNext : Result Between Stop → Type 0
IsClosedNext (Ok n) = IsBetween n × (n.picture ≡ None)
IsClosedNext (Err e) = Unit {0}

record IsClosed (t : Stepped) : Type 0 where
  closed : All IsPlan t.closed
  next : IsClosedNext t.next

none_open : (n : Between) → AreSets n.sets → n.picture ≡ None → IsBetween n
none_open n are none =
    record { sets = are; picture = subst (λ (p : Option PicturePlan). IfSome p (IsOpen n.sets)) (sym none) tt }

-- where nothing is broken at last, nothing was broken first
none_first : (first later : Option Fault) → or_later first later ≡ None → first ≡ None
none_first None later e = refl
none_first (Some f) later e = e

closed_by_is : (s : Between) (p : PicturePlan) (f : Option Fault) → broken_at_closing p ≡ f → AreSets s.sets
    → IsOpen s.sets p → IsClosed (closed_by s p f)
closed_by_is s p None e are open_is = record {
  closed = All-cons IsPlan p [] (plan_is s.sets p open_is (none_first (broken_in p) (full_at p) e)) (All-nil IsPlan);
  next = (record { sets = are; picture = tt }, refl);
}
closed_by_is s p (Some f) e are open_is = record { closed = All-nil IsPlan; next = tt }

closed_open_is : (s : Between) (p : Option PicturePlan) → s.picture ≡ p → AreSets s.sets → IfSome p (IsOpen s.sets)
    → IsClosed (closed_open s p)
closed_open_is s None e are open_is = record { closed = All-nil IsPlan; next = (none_open s are e, e) }
closed_open_is s (Some p) e are open_is = closed_by_is s p (broken_at_closing p) refl are open_is

close_is : (s : Between) → IsBetween s → IsClosed (close s)
unfolding close
close_is s is = closed_open_is s s.picture refl is.sets is.picture

only_next : (next : Result Between Stop) → IsClosedNext next → IsNext next
only_next (Ok n) h = h.0
only_next (Err e) h = tt

only_closes : (s : Between) → IsBetween s → IsStep (close s)
only_closes s is = let c = close_is s is in record { closed = c.closed; next = only_next (close s).next c.next }

then_is : (closed : List PicturePlan) (next : Result Between Stop) (f : Between → Result Between Stop)
    → All IsPlan closed → IsClosedNext next
    → ((n : Between) → IsBetween n → n.picture ≡ None → IsNext (f n)) → IsStep (then_next closed next f)
then_is closed (Ok n) f each h keeps = record { closed = each; next = keeps n h.0 h.1 }
then_is closed (Err e) f each h keeps = record { closed = each; next = tt }

closing_is : (s : Between) (f : Between → Result Between Stop) → IsBetween s
    → ((n : Between) → IsBetween n → n.picture ≡ None → IsNext (f n)) → IsStep (closing s f)
closing_is s f is keeps = let c = close_is s is in then_is (close s).closed (close s).next f c.closed c.next keeps

-- ---- parameter sets

put_sps_is : (s : Between) (sps : SpsFields) → IsBetween s → s.picture ≡ None → IsSps sps → IsBetween (put_sps s sps)
put_sps_is s sps is none ok = none_open (put_sps s sps)
    (record {
      sps =
          All-set (λ set. IfSome set IsSps) s.sets.sps sps.identity.sps_seq_parameter_set_id (Some sps) ok is.sets.sps;
      pps = is.sets.pps;
    })
    none

put_pps_is : (s : Between) (pps : PpsFields) → IsBetween s → s.picture ≡ None → IsPps pps → IsBetween (put_pps s pps)
put_pps_is s pps is none ok = none_open (put_pps s pps)
    (record {
      sps = is.sets.sps;
      pps =
          All-set (λ set. IfSome set IsPps) s.sets.pps pps.identity.pps_pic_parameter_set_id (Some pps) ok is.sets.pps;
    })
    none

read_sps_is : (u : NalUnit) (s : Between) (r : Result SpsFields Breach) → sequence_parameter_set_of u.payload ≡ r
    → IsBetween s → s.picture ≡ None → IsNext (behind_read u.index r (put_sps s))
read_sps_is u s (Ok sps) e is none = put_sps_is s sps is none (sequence_set_in_range u.payload sps e)
read_sps_is u s (Err f) e is none = tt

read_pps_is : (u : NalUnit) (s : Between) (r : Result PpsFields Breach) → picture_parameter_set_of u.payload ≡ r
    → IsBetween s → s.picture ≡ None → IsNext (behind_read u.index r (put_pps s))
read_pps_is u s (Ok pps) e is none = put_pps_is s pps is none (picture_set_in_range u.payload pps e)
read_pps_is u s (Err f) e is none = tt

-- ---- slice segments

-- a picture that is opened by an accepted first header
set_opens : (sets : Sets) (former : Former) (u : NalUnit) (h : SliceHeaderFields) (n : Named) (poc : ℤ)
    (r : Result Rps FaultKind) (p : PicturePlan)
    → AreSets sets
    → judged_header sets former [] u ≡ Ok h → named_by sets h.segment.slice_pic_parameter_set_id ≡ Some n
    → reference_picture_set h.kind h.slice.references poc former.dpb ≡ r → with_set former.dpb u h n poc r ≡ Ok p
    → IsOpen sets p
set_opens sets former u h n poc (Err f) p are judged named found e = absurd cc
set_opens sets former u h n poc (Ok rps) p are judged named found e =
    let c = context_of sets former [] u in
    let read = judged_reads sets former [] u h judged in
    let header = header_in_range c u.payload h are (All-nil _) read in
    let at = (first_is sets former u h read).address in
    subst (λ (o : Result PicturePlan Breach). IfOkIs o (IsOpen sets)) e
    (opened_is sets former u h _ (named_is sets h.segment.slice_pic_parameter_set_id n are named) named
    (are_there h.kind h.slice.references poc former.dpb rps found) header at refl)

order_opens : (sets : Sets) (former : Former) (u : NalUnit) (h : SliceHeaderFields) (n : Named) (r : Result ℤ FaultKind)
    (p : PicturePlan)
    → AreSets sets
    → judged_header sets former [] u ≡ Ok h → named_by sets h.segment.slice_pic_parameter_set_id ≡ Some n
    → with_order former u h n r ≡ Ok p → IsOpen sets p
order_opens sets former u h n (Err f) p are judged named e = absurd cc
order_opens sets former u h n (Ok poc) p are judged named e =
    set_opens sets former u h n poc (reference_picture_set h.kind h.slice.references poc former.dpb) p
    are judged named refl e

sets_open : (sets : Sets) (former : Former) (u : NalUnit) (h : SliceHeaderFields) (o : Option Named) (p : PicturePlan)
    → AreSets sets
    → judged_header sets former [] u ≡ Ok h → named_by sets h.segment.slice_pic_parameter_set_id ≡ o
    → with_sets former u h o ≡ Ok p → IsOpen sets p
sets_open sets former u h None p are judged named e = absurd cc
sets_open sets former u h (Some n) p are judged named e =
    order_opens sets former u h n
    (pic_order_cnt_val h.kind h.slice.references.slice_pic_order_cnt_lsb former.prev_tid0_pic_order_cnt)
    p are judged named e

picture_opens : (sets : Sets) (former : Former) (u : NalUnit) (h : SliceHeaderFields) (p : PicturePlan) → AreSets sets
    → judged_header sets former [] u ≡ Ok h → picture_of sets former u h ≡ Ok p → IsOpen sets p
unfolding picture_of
picture_opens sets former u h p are judged e =
    sets_open sets former u h (named_by sets h.segment.slice_pic_parameter_set_id) p are judged refl e

opens_by : (sets : Sets) (former : Former) (u : NalUnit) (p : PicturePlan) (r : Result SliceHeaderFields Breach)
    → AreSets sets
    → judged_header sets former [] u ≡ r → opened_by sets former u r ≡ Ok p → IsOpen sets p
opens_by sets former u p (Err f) are is e = absurd cc
opens_by sets former u p (Ok h) are is e = picture_opens sets former u h p are is e

opening_is : (sets : Sets) (former : Former) (u : NalUnit) (p : PicturePlan) → AreSets sets
    → opening sets former u ≡ Ok p → IsOpen sets p
unfolding opening
opening_is sets former u p are e = opens_by sets former u p (judged_header sets former [] u) are refl e

opened_next : (u : NalUnit) (s : Between) (r : Result PicturePlan Breach) → AreSets s.sets
    → opening s.sets s.former u ≡ r → IsNext (behind_read u.index r (begun s))
opened_next u s (Err e) are is = tt
opened_next u s (Ok p) are is = record { sets = are; picture = opening_is s.sets s.former u p are is }

judged_none : (u : NalUnit) (s : Between) → IsBetween s → s.picture ≡ None → IsNext (slice_judged u s)
unfolding slice_judged
judged_none u s is none = rw none (opened_next u s (opening s.sets s.former u) is.sets refl)

-- the open picture goes on
continued_next : (u : NalUnit) (s : Between) (p : PicturePlan) → AreSets s.sets → IsOpen s.sets p
    → first_flag (bits u.payload) ≡ Some false
    → (r : Result SliceHeaderFields Breach) → judged_header s.sets s.former p.segments u ≡ r
    → IsNext (behind_read u.index (continued_by s.former u p r) (continued s))
continued_next u s p are open_is flag (Err e) is = tt
continued_next u s p are open_is flag (Ok h) is =
    let c = context_of s.sets s.former p.segments u in
    let read = judged_reads s.sets s.former p.segments u h is in
    let header = header_in_range c u.payload h are (slices_in_range s.sets p open_is) read in
    record {
      sets = are;
      picture = continued_is s.sets s.former u h p open_is header (later_is c u.payload h flag read);
    }

continuing_next : (u : NalUnit) (s : Between) (p : PicturePlan) → AreSets s.sets → IsOpen s.sets p
    → first_flag (bits u.payload) ≡ Some false
    → IsNext (behind_read u.index (continuing s.sets s.former u p) (continued s))
unfolding continuing
continuing_next u s p are open_is flag =
    continued_next u s p are open_is flag (judged_header s.sets s.former p.segments u) refl

joined_next : (u : NalUnit) (s : Between) (o : Option PicturePlan) → AreSets s.sets → IfSome o (IsOpen s.sets)
    → first_flag (bits u.payload) ≡ Some false → IsNext (joined u s o)
joined_next u s None are open_is flag = opened_next u s (opening s.sets s.former u) are refl
joined_next u s (Some p) are open_is flag = continuing_next u s p are open_is flag

judged_next : (u : NalUnit) (s : Between) → IsBetween s → first_flag (bits u.payload) ≡ Some false
    → IsNext (slice_judged u s)
unfolding slice_judged
judged_next u s is flag = joined_next u s s.picture is.sets is.picture flag

goes_on_is : (flag : Option Bool) → goes_on flag ≡ true → flag ≡ Some false
goes_on_is None e = absurd cc
goes_on_is (Some true) e = absurd cc
goes_on_is (Some false) e = refl

slice_by : (u : NalUnit) (s : Between) → IsBetween s → (dropped on : Bool) → goes_on (first_flag (bits u.payload)) ≡ on
    → IsStep (if dropped then close s
    else (if on then record { closed = []; next = slice_judged u s } else closing s (slice_judged u)))
slice_by u s is true on e = only_closes s is
slice_by u s is false true e = record { closed = All-nil IsPlan; next = judged_next u s is (goes_on_is _ e) }
slice_by u s is false false e = closing_is s (slice_judged u) is (judged_none u)

slice_is : (u : NalUnit) (s : Between) → IsBetween s → IsStep (slice_step s u)
unfolding slice_step
slice_is u s is = slice_by u s is (is_rasl u.nal_type && s.drops_rasl) (goes_on (first_flag (bits u.payload))) refl

-- ---- units

passes : (s : Between) → IsBetween s → IsStep (record { closed = []; next = Ok s })
passes s is = record { closed = All-nil IsPlan; next = is }

-- hashes that are stated change nothing that is asked of a picture
hashes_open : (sets : Sets) (u : NalUnit) (p : PicturePlan) → IsOpen sets p → IsOpen sets (with_hashes u p)
hashes_open sets u p is = record {
  named = is.named;
  sps = is.sps;
  pps = is.pps;
  there = is.there;
  headers = is.headers;
  order = is.order;
  inside = is.inside;
  slices = is.slices;
  references = is.references;
  cut = is.cut;
}

informed_open : (sets : Sets) (u : NalUnit) (o : Option PicturePlan) → IfSome o (IsOpen sets)
    → IfSome (option_map (with_hashes u) o) (IsOpen sets)
informed_open sets u None is = tt
informed_open sets u (Some p) is = hashes_open sets u p is

informed_is : (s : Between) (u : NalUnit) → IsBetween s
    → IsStep (record { closed = []; next = Ok (informed s u) })
informed_is s u is = record {
  closed = All-nil IsPlan;
  next = record { sets = is.sets; picture = informed_open s.sets u s.picture is.picture };
}

kind_is : (s : Between) (u : NalUnit) (kind : UnitKind) → IsBetween s → IsStep (kind_step s u kind)
kind_is s u unit.Slice is = slice_is u s is
kind_is s u unit.SequenceSet is =
    closing_is s _ is (λ n ok none. read_sps_is u n (sequence_parameter_set_of u.payload) refl ok none)
kind_is s u unit.PictureSet is =
    closing_is s _ is (λ n ok none. read_pps_is u n (picture_parameter_set_of u.payload) refl ok none)
kind_is s u unit.SequenceEnd is = closing_is s _ is (λ n ok none. none_open (sequence_end n) ok.sets none)
kind_is s u unit.Border is = only_closes s is
kind_is s u unit.SuffixInformation is = informed_is s u is
kind_is s u unit.Other is = passes s is

unit_by : (s : Between) (u : NalUnit) (above : Bool) → IsBetween s
    → IsStep (if above then record { closed = []; next = Ok s } else kind_step s u (kind_of_type u.nal_type))
unit_by s u true is = passes s is
unit_by s u false is = kind_is s u (kind_of_type u.nal_type) is

unit_is : (s : Between) (u : NalUnit) → IsBetween s → IsStep (unit_step s u)
unfolding unit_step
unit_is s u is = unit_by s u (nat_lt 0 u.layer) is

step_is : (s : Between) (t : Told) → IsBetween s → IsStep (step s t)
unfolding step
step_is s (Told.Whole u) is = unit_is s u is
step_is s (Told.Broken f) is = closing_is s _ is (λ n ok none. tt)
step_is s (Told.Met l) is = closing_is s _ is (λ n ok none. tt)

-- ---- all units

end_is : (ended : Bool) (s : Between) → IsBetween s → All IsPlan (planned_end ended s).pictures
end_is true s is = (close_is s is).closed
end_is false s is = All-nil IsPlan

next_is : (next : Result Between Stop) (f : Between → Planned) → IsNext next
    → ((n : Between) → IsBetween n → All IsPlan (f n).pictures) → All IsPlan (planned_next next f).pictures
next_is (Ok n) f is later = later n is
next_is (Err e) f is later = All-nil IsPlan

from_is : (ended : Bool) (s : Between) (ts : List Told) → IsBetween s → All IsPlan (planned_from ended s ts).pictures
from_is ended s [] is = end_is ended s is
from_is ended s (t ∷ ts) is =
    let own = step_is s t is in
    All-append IsPlan (step s t).closed
    (planned_next (step s t).next (λ n. planned_from ended n ts)).pictures own.closed
    (next_is (step s t).next (λ n. planned_from ended n ts) own.next (λ n ok. from_is ended n ts ok))

beginning_is : IsBetween beginning
unfolding beginning
beginning_is = record {
  sets = record {
    sps = All-replicate (λ set. IfSome set IsSps) 16 None tt;
    pps = All-replicate (λ set. IfSome set IsPps) 64 None tt;
  };
  picture = tt;
}

pub units_in_range : (ended : Bool) (told : List Told) → All IsPlan (planned_from ended beginning told).pictures
units_in_range ended told = from_is ended beginning told beginning_is

pub planned_in_range : (ended : Bool) (bytes : List ℕ) → All IsPlan (planned_of ended bytes).pictures
unfolding planned_of
planned_in_range ended bytes = units_in_range ended (told_of ended bytes)
