-- What an accepted slice segment header tells: its unit's number, and in a picture's first segment all that its picture
-- needs.
use Rattle.std.proofs.Common.{◌≡◌, ◌∙◌, ℕ, ◌-◌, ◌/◌, ℤ, Bool, true, false, ◌||◌, ◌&&◌, not, List, [], ◌∷◌, length}
use Rattle.std.proofs.Common.{Option, Some, None, is_none, if◌then◌else◌, Result, Ok, Err, refl, sym, ap, subst}
use Rattle.std.specs.Prelude.{nat_le, nat_lt}
use Rattle.hv_base.specs.declared.breach.Breach.{Breach}
use Rattle.hv_base.specs.declared.fault.FaultKind.{FaultKind}
use Rattle.hv_base.specs.declared.field_rules.FieldRules.{FieldRules}
use Rattle.hv_base.specs.declared.field_rules.TheConstants.{SLICE_HEADER_RULES}
use Rattle.header_types.specs.declared.former.Sets.{Sets}
use Rattle.header_types.specs.declared.former.Former.{Former}
use Rattle.header_types.specs.declared.reference_pictures.Rps.{Rps}
use Rattle.spec_slice_headers.specs.SliceTypes.{PictureKind}
use Rattle.spec_slice_headers.specs.SliceTypes.{ReferenceFields}
use Rattle.spec_slice_headers.specs.SliceTypes.{SegmentFields}
use Rattle.spec_slice_headers.specs.SliceTypes.{SliceHeaderFields}
use Rattle.spec_slice_headers.specs.SliceTypes.{SliceType}
use Rattle.spec_slice_headers.specs.PlanTypes.{SegmentPlan}
use Rattle.spec_slice_headers.specs.PlanTypes.{PicturePlan}
use Rattle.spec_output_order.specs.SpecBits.{bits, flag_at}
use Rattle.spec_output_order.specs.SpecFormats.{Format, Give, One, Refuse, Then, bind, wanted}
use Rattle.spec_output_order.specs.SpecFormats.{Field, FieldValue, Header, field_at, read}
use Rattle.spec_slice_headers.specs.SpecNalUnits.{NalUnit}
use Rattle.spec_output_order.specs.SpecReferencePictures.{is_irap, pic_order_cnt_val}
use Rattle.spec_output_order.specs.SpecReferencePictures.{reference_picture_set}
use Rattle.spec_slice_headers.specs.Context.{Context, judged}
use Rattle.spec_slice_headers.specs.NamedSets.{Named, found, named_by, named_sets}
use Rattle.spec_slice_headers.specs.ReferenceRules.{judged_references}
use Rattle.spec_slice_headers.specs.SegmentHeader.{alignment, aligned, fields_of_slice, placed, slice_header_of}
use Rattle.spec_slice_headers.specs.SegmentHeader.{slice_segment_header}
use Rattle.spec_slice_headers.specs.SegmentStart.{front, place}
use Rattle.spec_slice_headers.specs.SliceFields.{kind_of, later_fields, slice_fields}
use Rattle.spec_picture_plan.specs.Steps.{context_of, first_flag, judged_header, opening, picture_of, with_set}

-- ---- what a format gives

abbrev R : FieldRules
R = SLICE_HEADER_RULES

abbrev Pair : Type 0 → Type 0
Pair X = X × List Bool

-- some bits give this value
abbrev IsGiven : {X : Type 0} → Header X → X → Type 0
IsGiven m x = (b t : List Bool) × (read R m b ≡ Ok (x, t))

-- what holds of each value that a format can give
abbrev Always : {X : Type 0} → Format Field FieldValue X → (X → Type 0) → Type 0
Always (Give x) P = P x
Always (Refuse e) P = Unit {0}
Always (One q) P = (a : FieldValue q) → P a
Always (Then {X} m f) P = (x : X) → IsGiven m x → Always (f x) P

value_of : {X : Type 0} (y x : X) (b t : List Bool) → ◌≡◌ {A = Result (Pair X) Breach} (Ok (y, b)) (Ok (x, t)) → y ≡ x
value_of {X} y x b t e = let pair : ◌≡◌ {A = Pair X} (y, b) (x, t) = cc in ap (λ (p : Pair X). p.0) pair

always_then : {X Y : Type 0} (m : Header X) (f : X → Header Y) (P : Y → Type 0) (b : List Bool)
    (r : Result (Pair X) Breach)
    → read R m b ≡ r
    → ((y : X) → IsGiven m y → (s : List Bool) (x : Y) (t : List Bool) → read R (f y) s ≡ Ok (x, t) → P x)
    → (x : Y) (t : List Bool) → bind r (λ y s. read R (f y) s) ≡ Ok (x, t) → P x
always_then m f P b (Err e) is h x t read = absurd cc
always_then m f P b (Ok y) is h x t read = h y.0 (b, y.1, is) y.1 x t read

always_read : {X : Type 0} (format : Format Field FieldValue X) (P : X → Type 0) → Always format P
    → (b : List Bool) (x : X) (t : List Bool) → read R format b ≡ Ok (x, t) → P x
always_read (Give y) P h b x t e = subst P (value_of y x b t e) h
always_read (Refuse f) P h b x t e = absurd cc
always_read (One q) P h b x t e = h x
always_read (Then m f) P h b x t e =
    always_then m f P b (read R m b) refl (λ y given s. always_read (f y) P (h y given) s) x t e

given_is : {X : Type 0} (format : Header X) (P : X → Type 0) → Always format P → (x : X) → IsGiven format x → P x
given_is format P h x given = always_read format P h given.0 x given.1 given.2

-- ---- the unit's number

number_given : (c : Context) → Always (slice_segment_header c) (λ h. h.nal ≡ c.nal)
unfolding slice_segment_header
number_given c =
    λ f f-given n n-given segment segment-given slice slice-given points points-given extension extension-given. refl

-- ---- a picture's first segment

abbrev first_context : Sets → Former → NalUnit → Context
first_context sets former u = context_of sets former [] u

-- first_slice_segment_in_pic_flag is 1 in the first segment of a picture
flag_read : (sets : Sets) (former : Former) (u : NalUnit) (b : List Bool) (h : SliceHeaderFields) (t : List Bool)
    → read R (slice_segment_header (first_context sets former u)) b ≡ Ok (h, t) → first_flag b ≡ Some true
unfolding slice_segment_header front field_at flag_at
flag_read sets former u [] h t e = absurd cc
flag_read sets former u (true ∷ b) h t e = refl
flag_read sets former u (false ∷ b) h t e = absurd cc

wanted_holds : (fact : Bool) (e : Breach) (b : List Bool) (x : Bool) (t : List Bool)
    → read R (wanted fact e) b ≡ Ok (x, t) → fact ≡ true
wanted_holds true e b x t is = refl
wanted_holds false e b x t is = absurd cc

judged_is : {X : Type 0} (r : Result X Breach) (b : List Bool) (x : X) (t : List Bool) → read R (judged r) b ≡ Ok (x, t)
    → r ≡ Ok x
judged_is (Ok y) b x t is = ap Ok (value_of y x b t is)
judged_is (Err e) b x t is = absurd cc

or_false : (b : Bool) → (b || false) ≡ true → b ≡ true
or_false true e = refl
or_false false e = e

record IsFirstFront (f : SegmentFields) : Type 0 where
  first : f.first_slice_segment_in_pic_flag ≡ true
  slice : f.dependent_slice_segment_flag ≡ false

front_given : (sets : Sets) (former : Former) (u : NalUnit) → Always (front (first_context sets former u)) IsFirstFront
unfolding front
front_given sets former u =
    λ first first-given opened opened-given unit unit-given prior prior-given output output-given id id-given. record {
      first = or_false first (wanted_holds (first || false) _ opened-given.0 opened opened-given.1 opened-given.2);
      slice = refl;
    }

place_given : (c : Context) (n : Named) (f : SegmentFields) → f.first_slice_segment_in_pic_flag ≡ true
    → Always (place c n f) (λ s. s ≡ f)
unfolding place
place_given c n f first = rw first refl

-- the order count and the reference pictures of a picture are there
record HasReferences (c : Context) (kind : PictureKind) (references : ReferenceFields) : Type 0 where
  poc : ℤ
  ordered : pic_order_cnt_val kind references.slice_pic_order_cnt_lsb c.former.prev_tid0_pic_order_cnt ≡ Ok poc
  rps : Rps
  found : reference_picture_set kind references poc c.former.dpb ≡ Ok rps

found_by : (c : Context) (kind : PictureKind) (type : SliceType) (output : Bool) (references : ReferenceFields)
    (x : Bool)
    → judged_references c None kind type output references ≡ Ok x
    → (poc : ℤ) → pic_order_cnt_val kind references.slice_pic_order_cnt_lsb c.former.prev_tid0_pic_order_cnt ≡ Ok poc
    → (r : Result Rps FaultKind) → reference_picture_set kind references poc c.former.dpb ≡ r
    → HasReferences c kind references
unfolding judged_references
found_by c kind type output references x e poc ordered (Ok rps) found =
    record { poc = poc; ordered = ordered; rps = rps; found = found }
found_by c kind type output references x e poc ordered (Err f) found = let e' = rw (ordered, found) at e in absurd cc

references_by : (c : Context) (kind : PictureKind) (type : SliceType) (output : Bool) (references : ReferenceFields)
    (x : Bool)
    → judged_references c None kind type output references ≡ Ok x
    → (r : Result ℤ FaultKind)
    → pic_order_cnt_val kind references.slice_pic_order_cnt_lsb c.former.prev_tid0_pic_order_cnt ≡ r
    → HasReferences c kind references
unfolding judged_references
references_by c kind type output references x e (Ok poc) ordered =
    found_by c kind type output references x e poc ordered (reference_picture_set kind references poc c.former.dpb) refl
references_by c kind type output references x e (Err f) ordered = let e' = rw ordered at e in absurd cc

slice_given : (c : Context) (n : Named)
    → Always (slice_fields c None n) (λ s. HasReferences c (kind_of c n.sps) s.references)
unfolding slice_fields later_fields
slice_given c n = λ flags flags-given type type-given output output-given references references-given kept kept-given
    temporal temporal-given luma luma-given chroma chroma-given inter inter-given filters filters-given.
    let is =
    judged_is (judged_references c None (kind_of c n.sps) type output references) kept-given.0 kept
    kept-given.1 kept-given.2 in
    references_by c (kind_of c n.sps) type output references kept is
    (pic_order_cnt_val (kind_of c n.sps) references.slice_pic_order_cnt_lsb c.former.prev_tid0_pic_order_cnt) refl

fields_given : (c : Context) (n : Named) (segment : SegmentFields) → segment.first_slice_segment_in_pic_flag ≡ true
    → segment.dependent_slice_segment_flag ≡ false
    → Always (fields_of_slice c n segment) (λ s. HasReferences c (kind_of c n.sps) s.references)
fields_given c n segment first slice = rw (slice, first) (slice_given c n)

named_by_case : (c : Context) (first : Bool) (id : ℕ) (n : Named) → named_sets c first id ≡ Ok n
    → (o : Option Named) → named_by c.sets id ≡ o → (m : Named) × (named_by c.sets id ≡ Some m)
unfolding named_sets
named_by_case c first id n e (Some m) is = (m, is)
named_by_case c first id n e None is = let e' = rw is at e in absurd cc

-- what the first segment's header names is there
record IsFirstHeader (c : Context) (h : SliceHeaderFields) : Type 0 where
  named : Named
  sets : named_by c.sets h.segment.slice_pic_parameter_set_id ≡ Some named
  references : HasReferences c h.kind h.slice.references

first_given : (sets : Sets) (former : Former) (u : NalUnit)
    → Always (slice_segment_header (first_context sets former u)) (IsFirstHeader (first_context sets former u))
unfolding slice_segment_header
first_given sets former u =
    λ f f-given n n-given segment segment-given slice slice-given points points-given extension extension-given.
    let c = first_context sets former u in
    let is = given_is (front c) IsFirstFront (front_given sets former u) f f-given in
    let judged =
    judged_is (named_sets c f.first_slice_segment_in_pic_flag f.slice_pic_parameter_set_id) n-given.0 n
    n-given.1 n-given.2 in
    let named =
    named_by_case c f.first_slice_segment_in_pic_flag f.slice_pic_parameter_set_id n judged
    (named_by c.sets f.slice_pic_parameter_set_id) refl in
    let same : segment ≡ f = given_is (place c n f) (λ s. s ≡ f) (place_given c n f is.first) segment segment-given in
    let first = ap (λ (s : SegmentFields). s.first_slice_segment_in_pic_flag) same ∙ is.first in
    let begins = ap (λ (s : SegmentFields). s.dependent_slice_segment_flag) same ∙ is.slice in
    record {
      named = named.0;
      sets = ap (λ (s : SegmentFields). named_by c.sets s.slice_pic_parameter_set_id) same ∙ named.1;
      references =
          given_is (fields_of_slice c n segment) (λ s. HasReferences c (kind_of c n.sps) s.references)
          (fields_given c n segment first begins) slice slice-given;
    }

-- ---- judged headers

header_read : (a b c : Bool) (e f g : Breach) (r : Result SliceHeaderFields Breach) (h : SliceHeaderFields)
    → (if a then Err e else (if b then Err f else (if c then Err g else r))) ≡ Ok h → r ≡ Ok h
header_read true b c e f g r h is = absurd cc
header_read false true c e f g r h is = absurd cc
header_read false false true e f g r h is = absurd cc
header_read false false false e f g r h is = is

pub judged_reads : (sets : Sets) (former : Former) (segments : List SegmentPlan) (u : NalUnit) (h : SliceHeaderFields)
    → judged_header sets former segments u ≡ Ok h → slice_header_of (context_of sets former segments u) u.payload ≡ Ok h
unfolding judged_header
judged_reads sets former segments u h e =
    header_read (is_none (first_flag (bits u.payload)))
    (former.first_in_sequence && not (is_irap u.nal_type || nat_lt 0 (length segments))) (nat_le 4096 (length segments))
    _ _ _ (slice_header_of (context_of sets former segments u) u.payload) h e

-- a header but for the place of its data
record IsPlaced (h g : SliceHeaderFields) : Type 0 where
  at : ℕ
  is : record (g) { data_place = at } ≡ h

placed_from : (payload : List ℕ) (g h : SliceHeaderFields) (r : Result (Pair Bool) Breach) → placed payload g r ≡ Ok h
    → IsPlaced h g
placed_from payload g h (Ok x) e = record { at = length payload - length x.1 / 8; is = cc }
placed_from payload g h (Err f) e = absurd cc

aligned_from : (payload : List ℕ) (r : Result (Pair SliceHeaderFields) Breach) (h : SliceHeaderFields)
    → aligned payload r ≡ Ok h
    → (g : SliceHeaderFields) × (t : List Bool) × (r ≡ Ok (g, t)) × IsPlaced h g
aligned_from payload (Ok x) h e = (x.0, x.1, refl, placed_from payload x.0 h (alignment x.1) e)
aligned_from payload (Err f) h e = absurd cc

read_from : (c : Context) (payload : List ℕ) (h : SliceHeaderFields) → slice_header_of c payload ≡ Ok h
    → (g : SliceHeaderFields) × (t : List Bool) × (read R (slice_segment_header c) (bits payload) ≡ Ok (g, t))
    × IsPlaced h g
unfolding slice_header_of
read_from c payload h e = aligned_from payload (read R (slice_segment_header c) (bits payload)) h e

pub judged_number : (sets : Sets) (former : Former) (segments : List SegmentPlan) (u : NalUnit) (h : SliceHeaderFields)
    → judged_header sets former segments u ≡ Ok h → h.nal ≡ u.index
judged_number sets former segments u h e =
    let c = context_of sets former segments u in
    let from = read_from c u.payload h (judged_reads sets former segments u h e) in
    let number =
    always_read (slice_segment_header c) (λ g. g.nal ≡ c.nal) (number_given c) (bits u.payload) from.0 from.1 from.2 in
    sym (ap (λ (g : SliceHeaderFields). g.nal) from.3.is) ∙ number

pub judged_flag : (sets : Sets) (former : Former) (u : NalUnit) (h : SliceHeaderFields)
    → judged_header sets former [] u ≡ Ok h → first_flag (bits u.payload) ≡ Some true
judged_flag sets former u h e =
    let from = read_from (first_context sets former u) u.payload h (judged_reads sets former [] u h e) in
    flag_read sets former u (bits u.payload) from.0 from.1 from.2

first_header : (sets : Sets) (former : Former) (u : NalUnit) (h : SliceHeaderFields)
    → judged_header sets former [] u ≡ Ok h → IsFirstHeader (first_context sets former u) h
first_header sets former u h e =
    let c = first_context sets former u in
    let from = read_from c u.payload h (judged_reads sets former [] u h e) in
    let is =
    always_read (slice_segment_header c) (IsFirstHeader c) (first_given sets former u) (bits u.payload)
    from.0 from.1 from.2 in
    subst (IsFirstHeader c) from.3.is (record { named = is.named; sets = is.sets; references = is.references })

-- ---- the picture that a first segment opens

picture_opened : (sets : Sets) (former : Former) (u : NalUnit) (h : SliceHeaderFields)
    (is : IsFirstHeader (first_context sets former u) h)
    → picture_of sets former u h ≡ with_set former.dpb u h is.named is.references.poc (Ok is.references.rps)
unfolding picture_of
picture_opened sets former u h is = rw (is.sets, is.references.ordered, is.references.found) refl

opening_is : (sets : Sets) (former : Former) (u : NalUnit) (h : SliceHeaderFields)
    (is : IsFirstHeader (first_context sets former u) h)
    → judged_header sets former [] u ≡ Ok h
    → opening sets former u ≡ with_set former.dpb u h is.named is.references.poc (Ok is.references.rps)
unfolding opening
opening_is sets former u h is e = rw e (picture_opened sets former u h is)

pub opens : (sets : Sets) (former : Former) (u : NalUnit) (h : SliceHeaderFields)
    → judged_header sets former [] u ≡ Ok h
    → (p : PicturePlan) × (opening sets former u ≡ Ok p)
opens sets former u h e =
    let is = first_header sets former u h e in
    (_, opening_is sets former u h is e)
