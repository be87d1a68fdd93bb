-- The slice segments of a stream are grouped to its pictures, in their order.
use Rattle.std.proofs.Common.{◌≡◌, ◌∙◌, ℕ, ℤ, Bool, true, false, not, ◌&&◌, List, [], ◌∷◌, ◌++◌, Option, Some, None}
use Rattle.std.proofs.Common.{IfSome, option_map, if◌then◌else◌, Result, Ok, Err, refl, sym, ap, subst, append_assoc}
use Rattle.std.proofs.Common.{append-nil}
use Rattle.std.specs.Prelude.{nat_lt}
use Rattle.std.specs.List.{All, AllZip}
use Rattle.std.proofs.lemmas.List.Elements.{All-nil, All-cons, All-append, All-push}
use Rattle.hv_base.specs.declared.breach.Breach.{Breach}
use Rattle.hv_base.specs.declared.fault.Fault.{Fault}
use Rattle.hv_base.specs.declared.fault.FaultKind.{FaultKind}
use Rattle.hv_base.specs.declared.refusal.Stop.{Stop}
use Rattle.header_types.specs.declared.former.Sets.{Sets}
use Rattle.header_types.specs.declared.former.Former.{Former}
use Rattle.header_types.specs.declared.reference_pictures.Rps.{Rps}
use Rattle.spec_slice_headers.specs.SliceTypes.{SliceHeaderFields}
use Rattle.spec_slice_headers.specs.PlanTypes.{SegmentPlan}
use Rattle.spec_slice_headers.specs.PlanTypes.{PicturePlan}
use Rattle.spec_slice_headers.specs.PlanTypes.{Between}
use Rattle.spec_output_order.specs.SpecBits.{bits}
use Rattle.spec_slice_headers.specs.SpecNalUnits.{NalUnit, Told}
use Rattle.spec_slice_headers.specs.SpecParameterSets.{picture_parameter_set_of}
use Rattle.spec_slice_headers.specs.SpecParameterSets.{sequence_parameter_set_of}
use Rattle.spec_output_order.specs.SpecReferencePictures.{pic_order_cnt_val}
use Rattle.spec_output_order.specs.SpecReferencePictures.{reference_picture_set}
use Rattle.spec_slice_headers.specs.NamedSets.{Named, named_by}
use Rattle.spec_picture_plan.specs.declared.unit_kind.UnitKind.{UnitKind}
use Rattle.spec_picture_plan.specs.declared.unit_kind.UnitKind.TheVariants as unit
use Rattle.spec_picture_plan.specs.UnitKinds.{is_rasl, is_slice, kind_of_type}
use Rattle.spec_picture_plan.specs.Closing.{broken_at_closing}
use Rattle.spec_picture_plan.specs.Pictures.{beginning}
use Rattle.spec_picture_plan.specs.Steps.{Stepped, begun, behind_read, close, closed_by, closed_open, closing}
use Rattle.spec_picture_plan.specs.Steps.{continued, continued_by, continuing, first_flag, goes_on, joined}
use Rattle.spec_picture_plan.specs.Steps.{judged_header, kind_step, opened_by, opening, picture_of, put_pps, put_sps}
use Rattle.spec_picture_plan.specs.Steps.{segment_of, sequence_end, slice_judged, slice_step, step, then_next}
use Rattle.spec_picture_plan.specs.Steps.{unit_step, with_hashes, with_order, with_set, with_sets}
use Rattle.spec_picture_plan.specs.Planned.{Planned, at_end, behind_closed, planned_end, planned_from, planned_next}
use Rattle.spec_picture_plan.specs.Grouping.{AreGrouped, AreOfPicture, AreOfPictureAtMost, HasFirstFlag, IsSegmentOf}
use Rattle.spec_picture_plan.specs.Grouping.{decoded_unit, decoded_units, segments_of, units_next}
use Rattle.spec_picture_plan.proofs.HeaderFacts.{judged_flag, judged_number}

abbrev IsWhole : PicturePlan → Type 0
IsWhole p = AreOfPicture p.segments

abbrev open_of : Option PicturePlan → List SegmentPlan
open_of None = []
open_of (Some p) = p.segments

abbrev IsBegun : Between → Type 0
IsBegun s = IfSome s.picture IsWhole

zip-append : (xs ys : List NalUnit) (ss bs : List SegmentPlan) → AllZip IsSegmentOf xs ss → AllZip IsSegmentOf ys bs
    → AllZip IsSegmentOf (xs ++ ys) (ss ++ bs)
zip-append [] ys [] bs a b = b
zip-append [] ys (s ∷ ss) bs a b = absurd a
zip-append (x ∷ xs) ys [] bs a b = absurd a
zip-append (x ∷ xs) ys (s ∷ ss) bs a b = (a.0, zip-append xs ys ss bs a.1 b)

segments-append : (xs ys : List PicturePlan) → segments_of (xs ++ ys) ≡ segments_of xs ++ segments_of ys
segments-append [] ys = refl
segments-append (x ∷ xs) ys =
    ap (λ (ss : List SegmentPlan). x.segments ++ ss) (segments-append xs ys)
    ∙ sym (append_assoc x.segments (segments_of xs) (segments_of ys))

at_most : (segments : List SegmentPlan) → AreOfPicture segments → AreOfPictureAtMost segments
at_most [] h = tt
at_most (s ∷ later) h = h

open_at_most : (p : Option PicturePlan) → IfSome p IsWhole → AreOfPictureAtMost (open_of p)
open_at_most None h = tt
open_at_most (Some p) h = at_most p.segments h

one_more : (segments : List SegmentPlan) (s : SegmentPlan) → AreOfPicture segments → HasFirstFlag false s
    → AreOfPicture (segments ++ s ∷ [])
one_more [] s h flag = absurd h
one_more (first ∷ later) s h flag = (h.0, All-push (HasFirstFlag false) later s h.1 flag)

-- ---- what a unit does to the open picture's segments

-- where it doesn't stop the stream, its segments stand behind those that were open
record OnGoes (before : List SegmentPlan) (closed : List PicturePlan) (units : List NalUnit)
    (n : Between) : Type 0 where
  own : List SegmentPlan
  zip : AllZip IsSegmentOf units own
  all : before ++ own ≡ segments_of closed ++ open_of n.picture
  begun : IsBegun n

-- where it does, some may be left over
record StopGoes (before : List SegmentPlan) (closed : List PicturePlan) : Type 0 where
  rest : List SegmentPlan
  all : before ≡ segments_of closed ++ rest
  begins : AreOfPictureAtMost rest

abbrev NextGoes : List SegmentPlan → List PicturePlan → List NalUnit → Result Between Stop → Type 0
NextGoes before closed units (Ok n) = OnGoes before closed units n
NextGoes before closed units (Err e) = StopGoes before closed

record StepGoes (before : List SegmentPlan) (t : Stepped) (units : List NalUnit) : Type 0 where
  begins : All IsWhole t.closed
  next : NextGoes before t.closed units t.next

-- nothing is open behind a picture that is closed
abbrev ClosedNext : List SegmentPlan → List PicturePlan → Result Between Stop → Type 0
ClosedNext before closed (Ok n) = (before ≡ segments_of closed) × (n.picture ≡ None)
ClosedNext before closed (Err e) = StopGoes before closed

record ClosedGoes (before : List SegmentPlan) (t : Stepped) : Type 0 where
  begins : All IsWhole t.closed
  next : ClosedNext before t.closed t.next

closed_by_goes : (s : Between) (p : PicturePlan) (f : Option Fault) → IsWhole p
    → ClosedGoes p.segments (closed_by s p f)
closed_by_goes s p None whole = record {
  begins = All-cons IsWhole p [] whole (All-nil IsWhole);
  next = (sym (append-nil p.segments), refl);
}
closed_by_goes s p (Some f) whole = record {
  begins = All-nil IsWhole;
  next = record { rest = p.segments; all = refl; begins = at_most p.segments whole };
}

closed_open_goes : (s : Between) (p : Option PicturePlan) → s.picture ≡ p → IfSome p IsWhole
    → ClosedGoes (open_of p) (closed_open s p)
closed_open_goes s None is whole = record { begins = All-nil IsWhole; next = (refl, is) }
closed_open_goes s (Some p) is whole = closed_by_goes s p (broken_at_closing p) whole

close_goes : (s : Between) → IsBegun s → ClosedGoes (open_of s.picture) (close s)
unfolding close
close_goes s whole = closed_open_goes s s.picture refl whole

-- where nothing was open, a unit's segments are those that are open behind it
record OpenGoes (units : List NalUnit) (n : Between) : Type 0 where
  zip : AllZip IsSegmentOf units (open_of n.picture)
  begun : IsBegun n

abbrev AfterGoes : List NalUnit → Result Between Stop → Type 0
AfterGoes units (Ok n) = OpenGoes units n
AfterGoes units (Err e) = Unit {0}

after_goes : (before : List SegmentPlan) (closed : List PicturePlan) (units : List NalUnit) (r : Result Between Stop)
    → before ≡ segments_of closed → AfterGoes units r → NextGoes before closed units r
after_goes before closed units (Ok n) all h = record {
  own = open_of n.picture;
  zip = h.zip;
  all = ap (λ (ss : List SegmentPlan). ss ++ open_of n.picture) all;
  begun = h.begun;
}
after_goes before closed units (Err e) all h =
    record { rest = []; all = all ∙ sym (append-nil (segments_of closed)); begins = tt }

then_goes : (before : List SegmentPlan) (closed : List PicturePlan) (next : Result Between Stop)
    (f : Between → Result Between Stop) (units : List NalUnit)
    → All IsWhole closed → ClosedNext before closed next → ((n : Between) → n.picture ≡ None → AfterGoes units (f n))
    → StepGoes before (then_next closed next f) units
then_goes before closed (Ok n) f units begins h keeps =
    record { begins = begins; next = after_goes before closed units (f n) h.0 (keeps n h.1) }
then_goes before closed (Err e) f units begins h keeps = record { begins = begins; next = h }

closing_goes : (s : Between) (f : Between → Result Between Stop) (units : List NalUnit) → IsBegun s
    → ((n : Between) → n.picture ≡ None → AfterGoes units (f n)) → StepGoes (open_of s.picture) (closing s f) units
closing_goes s f units whole keeps =
    let h = close_goes s whole in
    then_goes (open_of s.picture) (close s).closed (close s).next f units h.begins h.next keeps

-- a unit that only closes
only_next : (before : List SegmentPlan) (closed : List PicturePlan) (next : Result Between Stop)
    → ClosedNext before closed next → NextGoes before closed [] next
only_next before closed (Ok n) h = record {
  own = [];
  zip = tt;
  all =
      append-nil before ∙ h.0 ∙ sym (append-nil (segments_of closed))
      ∙ ap (λ (p : Option PicturePlan). segments_of closed ++ open_of p) (sym h.1);
  begun = subst (λ (p : Option PicturePlan). IfSome p IsWhole) (sym h.1) tt;
}
only_next before closed (Err e) h = h

only_closes : (s : Between) → IsBegun s → StepGoes (open_of s.picture) (close s) []
only_closes s whole =
    let h = close_goes s whole in
    record { begins = h.begins; next = only_next (open_of s.picture) (close s).closed (close s).next h.next }

-- a unit that changes no picture
passes : (s n : Between) → n.picture ≡ s.picture → IsBegun s
    → StepGoes (open_of s.picture) (record { closed = []; next = Ok n }) []
passes s n same whole = record {
  begins = All-nil IsWhole;
  next = record {
    own = [];
    zip = tt;
    all = append-nil (open_of s.picture) ∙ ap open_of (sym same);
    begun = subst (λ (p : Option PicturePlan). IfSome p IsWhole) (sym same) whole;
  };
}

none_open : (n : Between) → n.picture ≡ None → OpenGoes [] n
none_open n none = record {
  zip = subst (λ (p : Option PicturePlan). AllZip IsSegmentOf [] (open_of p)) (sym none) tt;
  begun = subst (λ (p : Option PicturePlan). IfSome p IsWhole) (sym none) tt;
}

set_goes : {X : Type 0} (nal : ℕ) (r : Result X Breach) (f : X → Between) → ((x : X) → (f x).picture ≡ None)
    → AfterGoes [] (behind_read nal r f)
set_goes nal (Ok x) f none = none_open (f x) (none x)
set_goes nal (Err e) f none = tt

-- ---- slice segments

segment_is : (sets : Sets) (former : Former) (before : List SegmentPlan) (u : NalUnit) (p : PicturePlan)
    (h : SliceHeaderFields)
    → judged_header sets former before u ≡ Ok h → IsSegmentOf u (segment_of before former.dpb p.rps u h)
segment_is sets former before u p h e =
    record { number = judged_number sets former before u h e; payload = refl; removed = refl }

-- the picture that a slice segment opens has this segment alone
record Opens (u : NalUnit) (p : PicturePlan) : Type 0 where
  segment : SegmentPlan
  only : p.segments ≡ segment ∷ []
  is : IsSegmentOf u segment

abbrev segments_in : Result PicturePlan Breach → List SegmentPlan
segments_in (Ok p) = p.segments
segments_in (Err e) = []

rps_opens : (former : Former) (u : NalUnit) (h : SliceHeaderFields) (n : Named) (poc : ℤ) (p : PicturePlan)
    → h.nal ≡ u.index
    → (r : Result Rps FaultKind) → with_set former.dpb u h n poc r ≡ Ok p → Opens u p
rps_opens former u h n poc p number (Err f) e = absurd cc
rps_opens former u h n poc p number (Ok rps) e = record {
  segment = segment_of [] former.dpb rps u h;
  only = sym (ap segments_in e);
  is = record { number = number; payload = refl; removed = refl };
}

order_opens : (former : Former) (u : NalUnit) (h : SliceHeaderFields) (n : Named) (p : PicturePlan) → h.nal ≡ u.index
    → (r : Result ℤ FaultKind) → with_order former u h n r ≡ Ok p → Opens u p
order_opens former u h n p number (Err f) e = absurd cc
order_opens former u h n p number (Ok poc) e =
    rps_opens former u h n poc p number (reference_picture_set h.kind h.slice.references poc former.dpb) e

sets_open : (former : Former) (u : NalUnit) (h : SliceHeaderFields) (p : PicturePlan) → h.nal ≡ u.index
    → (o : Option Named) → with_sets former u h o ≡ Ok p → Opens u p
sets_open former u h p number None e = absurd cc
sets_open former u h p number (Some n) e =
    order_opens former u h n p number
    (pic_order_cnt_val h.kind h.slice.references.slice_pic_order_cnt_lsb former.prev_tid0_pic_order_cnt) e

picture_opens : (sets : Sets) (former : Former) (u : NalUnit) (h : SliceHeaderFields) (p : PicturePlan)
    → h.nal ≡ u.index
    → picture_of sets former u h ≡ Ok p → Opens u p
unfolding picture_of
picture_opens sets former u h p number e =
    sets_open former u h p number (named_by sets h.segment.slice_pic_parameter_set_id) e

opens_by : (sets : Sets) (former : Former) (u : NalUnit) (p : PicturePlan) (r : Result SliceHeaderFields Breach)
    → judged_header sets former [] u ≡ r
    → opened_by sets former u r ≡ Ok p → Opens u p × (first_flag (bits u.payload) ≡ Some true)
opens_by sets former u p (Err f) is e = absurd cc
opens_by sets former u p (Ok h) is e =
    (picture_opens sets former u h p (judged_number sets former [] u h is) e, judged_flag sets former u h is)

opening_opens : (sets : Sets) (former : Former) (u : NalUnit) (p : PicturePlan) → opening sets former u ≡ Ok p
    → Opens u p × (first_flag (bits u.payload) ≡ Some true)
unfolding opening
opening_opens sets former u p e = opens_by sets former u p (judged_header sets former [] u) refl e

flag_of : (u : NalUnit) (s : SegmentPlan) (flag : Bool) → IsSegmentOf u s → first_flag (bits u.payload) ≡ Some flag
    → HasFirstFlag flag s
flag_of u s flag is e = ap (λ (payload : List ℕ). first_flag (bits payload)) is.payload ∙ e

opened_goes : (u : NalUnit) (s : Between) (p : PicturePlan) → Opens u p → first_flag (bits u.payload) ≡ Some true
    → OpenGoes (u ∷ []) (begun s p)
opened_goes u s p opened flag = record {
  zip = subst (AllZip IsSegmentOf (u ∷ [])) (sym opened.only) (opened.is, tt);
  begun =
      subst AreOfPicture (sym opened.only) (flag_of u opened.segment true opened.is flag, All-nil (HasFirstFlag false));
}

open_by_goes : (u : NalUnit) (s : Between) (r : Result PicturePlan Breach) → opening s.sets s.former u ≡ r
    → AfterGoes (u ∷ []) (behind_read u.index r (begun s))
open_by_goes u s (Err e) is = tt
open_by_goes u s (Ok p) is = let o = opening_opens s.sets s.former u p is in opened_goes u s p o.0 o.1

judged_none : (u : NalUnit) (s : Between) → s.picture ≡ None → AfterGoes (u ∷ []) (slice_judged u s)
unfolding slice_judged
judged_none u s none = rw none (open_by_goes u s (opening s.sets s.former u) refl)

-- the open picture goes on
continued_goes : (u : NalUnit) (s : Between) (p : PicturePlan) → IsWhole p → first_flag (bits u.payload) ≡ Some false
    → (r : Result SliceHeaderFields Breach) → judged_header s.sets s.former p.segments u ≡ r
    → NextGoes p.segments [] (u ∷ []) (behind_read u.index (continued_by s.former u p r) (continued s))
continued_goes u s p whole flag (Err e) is = record { rest = p.segments; all = refl; begins = at_most p.segments whole }
continued_goes u s p whole flag (Ok h) is =
    let segment = segment_is s.sets s.former p.segments u p h is in
    record {
      own = segment_of p.segments s.former.dpb p.rps u h ∷ [];
      zip = (segment, tt);
      all = refl;
      begun =
          one_more p.segments (segment_of p.segments s.former.dpb p.rps u h) whole
          (flag_of u (segment_of p.segments s.former.dpb p.rps u h) false segment flag);
    }

continuing_goes : (u : NalUnit) (s : Between) (p : PicturePlan) → IsWhole p → first_flag (bits u.payload) ≡ Some false
    → NextGoes p.segments [] (u ∷ []) (behind_read u.index (continuing s.sets s.former u p) (continued s))
unfolding continuing
continuing_goes u s p whole flag = continued_goes u s p whole flag (judged_header s.sets s.former p.segments u) refl

joined_goes : (u : NalUnit) (s : Between) (o : Option PicturePlan) → IfSome o IsWhole
    → first_flag (bits u.payload) ≡ Some false
    → NextGoes (open_of o) [] (u ∷ []) (joined u s o)
joined_goes u s None whole flag = after_goes [] [] (u ∷ []) _ refl (open_by_goes u s (opening s.sets s.former u) refl)
joined_goes u s (Some p) whole flag = continuing_goes u s p whole flag

judged_goes : (u : NalUnit) (s : Between) → IsBegun s → first_flag (bits u.payload) ≡ Some false
    → NextGoes (open_of s.picture) [] (u ∷ []) (slice_judged u s)
unfolding slice_judged
judged_goes u s whole flag = joined_goes u s s.picture whole flag

goes_on_is : (flag : Option Bool) → goes_on flag ≡ true → flag ≡ Some false
goes_on_is None e = absurd cc
goes_on_is (Some true) e = absurd cc
goes_on_is (Some false) e = refl

slice_by : (u : NalUnit) (s : Between) → IsBegun s → (dropped on : Bool) → goes_on (first_flag (bits u.payload)) ≡ on
    → StepGoes (open_of s.picture) (if dropped then close s
    else (if on then record { closed = []; next = slice_judged u s } else closing s (slice_judged u)))
    (if not dropped then u ∷ [] else [])
slice_by u s whole true on is = only_closes s whole
slice_by u s whole false true is = record { begins = All-nil IsWhole; next = judged_goes u s whole (goes_on_is _ is) }
slice_by u s whole false false is = closing_goes s (slice_judged u) (u ∷ []) whole (judged_none u)

slice_goes : (u : NalUnit) (s : Between) → IsBegun s
    → StepGoes (open_of s.picture) (slice_step s u) (if not (is_rasl u.nal_type && s.drops_rasl) then u ∷ [] else [])
unfolding slice_step
slice_goes u s whole =
    slice_by u s whole (is_rasl u.nal_type && s.drops_rasl) (goes_on (first_flag (bits u.payload))) refl

-- ---- other units

abbrev OtherGoes : NalUnit → Between → UnitKind → Type 0
OtherGoes u s kind = StepGoes (open_of s.picture) (kind_step s u kind) []

informed_goes : (u : NalUnit) (s : Between) (o : Option PicturePlan) → IfSome o IsWhole
    → StepGoes (open_of o) (record { closed = []; next = Ok (record s { picture = option_map (with_hashes u) o }) }) []
informed_goes u s None whole =
    record { begins = All-nil IsWhole; next = record { own = []; zip = tt; all = refl; begun = tt } }
informed_goes u s (Some p) whole = record {
  begins = All-nil IsWhole;
  next = record { own = []; zip = tt; all = append-nil p.segments; begun = whole };
}

other_by : (u : NalUnit) (s : Between) → IsBegun s → (a b c d e : Bool)
    → OtherGoes u s
    (if a then unit.SequenceSet
    else (if b then unit.PictureSet else (if c then unit.SequenceEnd
    else (if d then unit.Border else (if e then unit.SuffixInformation else unit.Other)))))
other_by u s whole true b c d e =
    closing_goes s _ [] whole (λ n none. set_goes u.index (sequence_parameter_set_of u.payload) (put_sps n) (λ x. none))
other_by u s whole false true c d e =
    closing_goes s _ [] whole (λ n none. set_goes u.index (picture_parameter_set_of u.payload) (put_pps n) (λ x. none))
other_by u s whole false false true d e = closing_goes s _ [] whole (λ n none. none_open (sequence_end n) none)
other_by u s whole false false false true e = only_closes s whole
other_by u s whole false false false false true = informed_goes u s s.picture whole
other_by u s whole false false false false false = passes s s refl whole

unit_by : (u : NalUnit) (s : Between) → IsBegun s → (layer slice : Bool) → nat_lt 0 u.layer ≡ layer
    → is_slice u.nal_type ≡ slice
    → StepGoes (open_of s.picture) (unit_step s u) (decoded_unit s (Told.Whole u))
unfolding unit_step kind_of_type
unit_by u s whole true slice l is = rw l (passes s s refl whole)
unit_by u s whole false true l is = rw (l, is) (slice_goes u s whole)
unit_by u s whole false false l is = rw (l, is) (other_by u s whole _ _ _ _ _)

step_goes : (s : Between) (t : Told) → IsBegun s → StepGoes (open_of s.picture) (step s t) (decoded_unit s t)
unfolding step
step_goes s (Told.Whole u) whole = unit_by u s whole (nat_lt 0 u.layer) (is_slice u.nal_type) refl refl
step_goes s (Told.Broken f) whole = closing_goes s _ [] whole (λ n none. tt)
step_goes s (Told.Met l) whole = closing_goes s _ [] whole (λ n none. tt)

-- ---- all units

record Goes (ended : Bool) (before : List SegmentPlan) (units : List NalUnit) (p : Planned) : Type 0 where
  more : List SegmentPlan
  zip : AllZip IsSegmentOf units more
  rest : List SegmentPlan
  all : before ++ more ≡ segments_of p.pictures ++ rest
  begins : All IsWhole p.pictures
  rest_begins : AreOfPictureAtMost rest
  whole : ended ≡ true → p.stop ≡ None → rest ≡ []

end_by : (before : List SegmentPlan) (closed : List PicturePlan) (next : Result Between Stop) → All IsWhole closed
    → ClosedNext before closed next
    → Goes true before [] (at_end (record { closed = closed; next = next }))
end_by before closed (Ok n) begins h = record {
  more = [];
  zip = tt;
  rest = [];
  all = append-nil before ∙ h.0 ∙ sym (append-nil (segments_of closed));
  begins = begins;
  rest_begins = tt;
  whole = λ e n. refl;
}
end_by before closed (Err e) begins h = record {
  more = [];
  zip = tt;
  rest = h.rest;
  all = append-nil before ∙ h.all;
  begins = begins;
  rest_begins = h.begins;
  whole = λ e n. absurd cc;
}

end_goes : (ended : Bool) (s : Between) → IsBegun s → Goes ended (open_of s.picture) [] (planned_end ended s)
end_goes true s whole =
    let h = close_goes s whole in end_by (open_of s.picture) (close s).closed (close s).next h.begins h.next
end_goes false s whole = record {
  more = [];
  zip = tt;
  rest = open_of s.picture;
  all = append-nil (open_of s.picture);
  begins = All-nil IsWhole;
  rest_begins = open_at_most s.picture whole;
  whole = λ e n. absurd cc;
}

next_goes : (ended : Bool) (before : List SegmentPlan) (closed : List PicturePlan) (own : List NalUnit)
    (next : Result Between Stop)
    (f : Between → List NalUnit) (g : Between → Planned) → All IsWhole closed → NextGoes before closed own next
    → ((n : Between) → IsBegun n → Goes ended (open_of n.picture) (f n) (g n))
    → Goes ended before (units_next own next f) (behind_closed closed (planned_next next g))
next_goes ended before closed own (Err e) f g begins h later = record {
  more = [];
  zip = tt;
  rest = h.rest;
  all = append-nil before ∙ h.all ∙ ap (λ (ps : List PicturePlan). segments_of ps ++ h.rest) (sym (append-nil closed));
  begins = All-append IsWhole closed [] begins (All-nil IsWhole);
  rest_begins = h.begins;
  whole = λ e n. absurd cc;
}
next_goes ended before closed own (Ok n) f g begins h later =
    let i = later n h.begun in
    record {
      more = h.own ++ i.more;
      zip = zip-append own (f n) h.own i.more h.zip i.zip;
      rest = i.rest;
      all = sym (append_assoc before h.own i.more)
          ∙ ap (λ (ss : List SegmentPlan). ss ++ i.more) h.all
          ∙ append_assoc (segments_of closed) (open_of n.picture) i.more
          ∙ ap (λ (ss : List SegmentPlan). segments_of closed ++ ss) i.all
          ∙ sym (append_assoc (segments_of closed) (segments_of (g n).pictures) i.rest)
          ∙ ap (λ (ss : List SegmentPlan). ss ++ i.rest) (sym (segments-append closed (g n).pictures));
      begins = All-append IsWhole closed (g n).pictures begins i.begins;
      rest_begins = i.rest_begins;
      whole = i.whole;
    }

all_goes : (ended : Bool) (s : Between) (ts : List Told) → IsBegun s
    → Goes ended (open_of s.picture) (decoded_units s ts) (planned_from ended s ts)
all_goes ended s [] whole = end_goes ended s whole
all_goes ended s (t ∷ ts) whole =
    let h = step_goes s t whole in
    next_goes ended (open_of s.picture) (step s t).closed (decoded_unit s t) (step s t).next (λ n. decoded_units n ts)
    (λ n. planned_from ended n ts)
    h.begins h.next (λ n begun. all_goes ended n ts begun)

pub are_grouped : (ended : Bool) (told : List Told)
    → AreGrouped ended (decoded_units beginning told) (planned_from ended beginning told)
unfolding beginning
are_grouped ended told =
    let h = all_goes ended beginning told tt in
    record {
      rest = h.rest;
      joined = subst (AllZip IsSegmentOf (decoded_units beginning told)) h.all h.zip;
      begins = h.begins;
      rest_begins = h.rest_begins;
      whole = h.whole;
    }
