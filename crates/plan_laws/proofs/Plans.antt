-- The open picture as it grows, and the picture that it is once it is closed.
use Rattle.std.proofs.Common.{◌≡◌, ◌∙◌, ℕ, ◌+◌, ◌-◌, ◌*◌, ◌<◌, ◌≤◌, ◌⊎◌, inl, inr, ℤ, Bool, true, false, ◌==◌, List}
use Rattle.std.proofs.Common.{[]}
use Rattle.std.proofs.Common.{◌∷◌, ◌++◌, length, Option, Some, None, IfSome, All, Ok, if◌then◌else◌, refl, sym, ap}
use Rattle.std.proofs.Common.{subst, arith}
use Rattle.std.specs.Prelude.{slice_get}
use Rattle.std.specs.Bool.{MatchBool}
use Rattle.std.specs.List.{Contains}
use Rattle.std.proofs.Math.Nat.{mul-pos, one-le-pow}
use Rattle.std.proofs.lemmas.Nat.{le-div}
use Rattle.std.proofs.lemmas.Bool.{eqb-true}
use Rattle.std.proofs.lemmas.List.Elements.{All-cons, All-nil, All-push, All-weaker}
use Rattle.header_types.specs.declared.former.Sets.{Sets}
use Rattle.header_types.specs.declared.former.Former.{Former}
use Rattle.header_types.specs.declared.reference_pictures.DpbPicture.{DpbPicture}
use Rattle.header_types.specs.declared.reference_pictures.Mark.TheVariants as mark
use Rattle.header_types.specs.declared.reference_pictures.RefEntry.{RefEntry}
use Rattle.header_types.specs.declared.reference_pictures.Rps.{Rps}
use Rattle.slice_types.specs.declared.slice.PictureKind.{PictureKind}
use Rattle.slice_types.specs.declared.slice.ReferenceFields.{ReferenceFields}
use Rattle.slice_types.specs.declared.slice.SliceHeaderFields.{SliceHeaderFields}
use Rattle.header_types.specs.declared.sps.SpsFields.{SpsFields}
use Rattle.header_types.specs.PictureParameterSet.{IsPps}
use Rattle.header_types.specs.SequenceParameterSets.{IsSps, blocks_across, ctb_size, height_in_ctbs, size_in_ctbs}
use Rattle.header_types.specs.SequenceParameterSets.{width_in_ctbs}
use Rattle.slice_types.specs.SliceHeaders.{IsSliceFields, IsSliceHeader}
use Rattle.header_laws.specs.PlanTypes.{PicturePlan}
use Rattle.header_laws.specs.PlanTypes.{SegmentPlan}
use Rattle.header_laws.specs.SpecNalUnits.{NalUnit}
use Rattle.spec_picture_plan.specs.SpecReferencePictures.{IsCurrent, list_0, list_1, reference_lists}
use Rattle.spec_picture_plan.specs.SpecReferencePictures.{IsLongTerm, IsMarked, IsShortTerm, reference_picture_set}
use Rattle.spec_picture_plan.proofs.SpecReferencePicturesLemmas.{long_marked, set_is, short_marked}
use Rattle.spec_picture_plan.proofs.SpecReferencePicturesLemmas.{list_0_current, list_1_current}
use Rattle.header_laws.specs.SpecSliceHeaders.{agrees, header_of}
use Rattle.header_laws.specs.SpecSliceHeaders.{Named, named_by}
use Rattle.spec_picture_plan.specs.Closing.{broken_from, broken_in}
use Rattle.spec_picture_plan.specs.Steps.{context_of, lists_of, segment_of, with_segment}
use Rattle.plan_laws.specs.Plans.{AreReferences, BeginSlicesFrom, HaveRows, IsPlan}
use Rattle.header_laws.specs.Ranges.{HaveSlices, IsNamed}
use Rattle.plan_laws.proofs.Places.{IsLater}
use Rattle.plan_laws.proofs.Segments.{BeginInOrder, IsCut, IsInside, cut_is, order_more, rise_inside, rows_are}
use Rattle.plan_laws.proofs.Segments.{slices_one_more}

-- ---- references

-- the pictures that a picture may use itself are in the buffer
pub record AreThere (rps : Rps) : Type 0 where
  pub short : (k : ℕ) → Contains rps.st_curr_before k ⊎ Contains rps.st_curr_after k → k < length rps.marks
  pub long : (k : ℕ) → Contains rps.lt_curr k → k < length rps.marks

short_term : (rps : Rps) (k : ℕ) → Contains rps.st_curr_before k ⊎ Contains rps.st_curr_after k → IsShortTerm rps k
short_term rps k (inl h) = inl h
short_term rps k (inr h) = inr (inl h)

pub are_there : (kind : PictureKind) (fields : ReferenceFields) (poc : ℤ) (dpb : List DpbPicture) (rps : Rps)
    → reference_picture_set kind fields poc dpb ≡ Ok rps → AreThere rps
are_there kind fields poc dpb rps e =
    let P : Rps → Type 0 = λ r. (k : ℕ) → IsLongTerm r k → IsMarked r k mark.Long in
    let Q : Rps → Type 0 = λ r. (k : ℕ) → IsShortTerm r k → IsMarked r k mark.Short in
    let long : P rps = subst P (sym (set_is kind fields poc dpb rps e)) (long_marked kind fields poc dpb) in
    let short : Q rps = subst Q (sym (set_is kind fields poc dpb rps e)) (short_marked kind fields poc dpb) in
    record { short = λ k h. (short k (short_term rps k h)).0; long = λ k h. (long k (inl h)).0 }

current_by : (rps : Rps) (k : ℕ) (long : Bool) → AreThere rps
    → MatchBool long (Contains rps.lt_curr k) (Contains rps.st_curr_before k ⊎ Contains rps.st_curr_after k)
    → k < length rps.marks
current_by rps k true there h = there.long k h
current_by rps k false there h = there.short k h

entries_there : (rps : Rps) (entries : List RefEntry) → AreThere rps → All (IsCurrent rps) entries
    → All (λ (e : RefEntry). e.place < length rps.marks) entries
entries_there rps entries there each =
    All-weaker (IsCurrent rps) (λ (e : RefEntry). e.place < length rps.marks)
    (λ e current. current_by rps e.place e.is_long_term there current) entries each

lists_by : (dpb : List DpbPicture) (header : SliceHeaderFields) (rps : Rps) (dependent : Bool) → AreThere rps
    → IfSome (if dependent then None else Some (reference_lists header.slice rps dpb))
    (AreReferences (length rps.marks))
unfolding reference_lists
lists_by dpb header rps true there = tt
lists_by dpb header rps false there = record {
  l0 = entries_there rps (list_0 header.slice.inter rps dpb) there (list_0_current dpb rps header.slice.inter);
  l1 = entries_there rps (list_1 header.slice.inter rps dpb) there (list_1_current dpb rps header.slice.inter);
}

lists_are : (dpb : List DpbPicture) (header : SliceHeaderFields) (rps : Rps) → AreThere rps
    → IfSome (lists_of dpb header rps) (AreReferences (length rps.marks))
lists_are dpb header rps there = lists_by dpb header rps header.segment.dependent_slice_segment_flag there

-- ---- the open picture

-- the first header's sets are those of the picture
abbrev pub NamesSets : Sets → PicturePlan → Option SliceHeaderFields → Type 0
NamesSets sets p first =
    IfSome first (λ (h : SliceHeaderFields). named_by sets h.segment.slice_pic_parameter_set_id
    ≡ Some (record { pps = p.pps; sps = p.sps }))

pub record IsOpen (sets : Sets) (p : PicturePlan) : Type 0 where
  pub named : NamesSets sets p (header_of (slice_get p.segments 0))
  pub sps : IsSps p.sps
  pub pps : IsPps p.pps
  pub there : AreThere p.rps
  pub headers : All (λ (s : SegmentPlan). IsSliceHeader s.header) p.segments
  pub order : BeginInOrder p.segments
  pub inside : All (IsInside (size_in_ctbs p.sps)) p.segments
  pub slices : BeginSlicesFrom 0 p.segments
  pub references : All (λ (s : SegmentPlan). IfSome s.lists (AreReferences (length p.rps.marks))) p.segments
  pub cut : All IsCut p.segments

pub slices_in_range : (sets : Sets) (p : PicturePlan) → IsOpen sets p → HaveSlices p.segments
slices_in_range sets p is =
    All-weaker (λ (s : SegmentPlan). IsSliceHeader s.header) (λ (s : SegmentPlan). IsSliceFields s.header.slice)
    (λ s h. h.slice) p.segments is.headers

some_segment : (segments : List SegmentPlan) → BeginInOrder segments → 1 ≤ length segments
some_segment [] h = absurd h
some_segment (s ∷ later) h = omega arith

rows_if : (sync : Bool) (p : PicturePlan) → All IsCut p.segments
    → (if sync then broken_from (width_in_ctbs p.sps) (size_in_ctbs p.sps) 0 p.segments else None) ≡ None
    → sync ≡ true → HaveRows (width_in_ctbs p.sps) (size_in_ctbs p.sps) p.segments
rows_if true p cut e on = rows_are (width_in_ctbs p.sps) (size_in_ctbs p.sps) 0 p.segments cut e
rows_if false p cut e on = absurd cc

-- a picture that is closed
pub plan_is : (sets : Sets) (p : PicturePlan) → IsOpen sets p → broken_in p ≡ None → IsPlan p
unfolding broken_in
plan_is sets p is e = let rises = rise_inside (size_in_ctbs p.sps) p.segments is.order is.inside in record {
  sps = is.sps;
  pps = is.pps;
  headers = is.headers;
  some = some_segment p.segments is.order;
  order = record { first = rises.0; rise = rises.1 };
  slices = is.slices;
  references = is.references;
  rows = rows_if p.pps.prediction.entropy_coding_sync_enabled_flag p is.cut e;
}

-- ---- a picture that is opened

across_some : (block side : ℕ) → 1 ≤ block → 1 ≤ side → 1 ≤ blocks_across block side
unfolding blocks_across
across_some block side some any =
    le-div 1 (side + (block - 1)) block (omega arith) (omega arith)

some_product : (a b : ℕ) → 1 ≤ a → 1 ≤ b → 0 < a * b
some_product a b h k = mul-pos h k

some_size : (sps : SpsFields) → IsSps sps → 0 < size_in_ctbs sps
some_size sps is =
    let block : 1 ≤ ctb_size sps = one-le-pow _ 2 (omega arith) in
    let width : 1 ≤ width_in_ctbs sps =
    across_some (ctb_size sps) sps.format.pic_width_in_luma_samples block is.format.some_width in
    let height : 1 ≤ height_in_ctbs sps =
    across_some (ctb_size sps) sps.format.pic_height_in_luma_samples block is.format.some_height in
    some_product (width_in_ctbs sps) (height_in_ctbs sps) width height

-- one segment of the picture
record IsOneOf (p : PicturePlan) (s : SegmentPlan) : Type 0 where
  header : IsSliceHeader s.header
  inside : IsInside (size_in_ctbs p.sps) s
  references : IfSome s.lists (AreReferences (length p.rps.marks))
  cut : IsCut s

segment_is : (before : List SegmentPlan) (dpb : List DpbPicture) (p : PicturePlan) (u : NalUnit) (h : SliceHeaderFields)
    → AreThere p.rps → IsSliceHeader h
    → h.segment.slice_segment_address < size_in_ctbs p.sps → IsOneOf p (segment_of before dpb p.rps u h)
segment_is before dpb p u h there is inside = record {
  header = is;
  inside = inside;
  references = lists_are dpb h p.rps there;
  cut = cut_is u.payload u.removed h.data_place h.entry_points;
}

first_slice : (b : Bool) → (if b then 0 else 0) ≤ 0
first_slice true = omega arith
first_slice false = omega arith

pub opened_is : (sets : Sets) (former : Former) (u : NalUnit) (h : SliceHeaderFields) (p : PicturePlan)
    → IsNamed (record { pps = p.pps; sps = p.sps })
    → named_by sets h.segment.slice_pic_parameter_set_id ≡ Some (record { pps = p.pps; sps = p.sps })
    → AreThere p.rps → IsSliceHeader h → h.segment.slice_segment_address ≡ 0
    → p.segments ≡ segment_of [] former.dpb p.rps u h ∷ [] → IsOpen sets p
opened_is sets former u h p is named there header at only =
    let s : SegmentPlan = segment_of [] former.dpb p.rps u h in
    let some = some_size p.sps is.sps in
    let one = segment_is [] former.dpb p u h there header (omega (arith, at, some)) in
    record {
      named =
          subst (λ (segments : List SegmentPlan). NamesSets sets p (header_of (slice_get segments 0))) (sym only) named;
      sps = is.sps;
      pps = is.pps;
      there = there;
      headers =
          subst (All (λ (s : SegmentPlan). IsSliceHeader s.header)) (sym only)
          (All-cons (λ (s : SegmentPlan). IsSliceHeader s.header) s [] one.header (All-nil _));
      order = subst BeginInOrder (sym only) (at, tt);
      inside =
          subst (All (IsInside (size_in_ctbs p.sps))) (sym only)
          (All-cons (IsInside (size_in_ctbs p.sps)) s [] one.inside (All-nil _));
      slices = subst (BeginSlicesFrom 0) (sym only) (first_slice h.segment.dependent_slice_segment_flag, tt);
      references =
          subst (All (λ (s : SegmentPlan). IfSome s.lists (AreReferences (length p.rps.marks)))) (sym only)
          (All-cons (λ (s : SegmentPlan). IfSome s.lists (AreReferences (length p.rps.marks))) s [] one.references
          (All-nil _));
      cut = subst (All IsCut) (sym only) (All-cons IsCut s [] one.cut (All-nil IsCut));
    }

-- ---- a picture that goes on

first_stays : (segments : List SegmentPlan) (s : SegmentPlan) → BeginInOrder segments
    → slice_get segments 0 ≡ slice_get (segments ++ s ∷ []) 0
first_stays [] s h = absurd h
first_stays (first ∷ later) s h = refl

some_same : (a b : Named) → Some a ≡ Some b → a ≡ b
some_same a b e = cc

-- the sets that a later header names are those of the picture
same_sets : (sets : Sets) (p : PicturePlan) (first : Option SliceHeaderFields) (some : first ≡ None → ⊥) (id : ℕ)
    (n : Named)
    → NamesSets sets p first
    → agrees first (λ (h : SliceHeaderFields). h.segment.slice_pic_parameter_set_id == id) ≡ true
    → named_by sets id ≡ Some n → n ≡ record { pps = p.pps; sps = p.sps }
same_sets sets p None some id n names same named = absurd (some refl)
same_sets sets p (Some h) some id n names same named =
    let id_is : h.segment.slice_pic_parameter_set_id ≡ id = eqb-true _ _ same in
    some_same n (record { pps = p.pps; sps = p.sps }) (sym named ∙ ap (named_by sets) (sym id_is) ∙ names)

some_first : (segments : List SegmentPlan) → BeginInOrder segments → header_of (slice_get segments 0) ≡ None → ⊥
some_first [] h e = h
some_first (s ∷ later) h e = absurd cc

pub continued_is : (sets : Sets) (former : Former) (u : NalUnit) (h : SliceHeaderFields) (p : PicturePlan)
    → IsOpen sets p → IsSliceHeader h
    → IsLater (context_of sets former p.segments u) h → IsOpen sets (with_segment former.dpb u h p)
continued_is sets former u h p is header later =
    let s : SegmentPlan = segment_of p.segments former.dpb p.rps u h in
    let same : later.named ≡ record { pps = p.pps; sps = p.sps } =
    same_sets sets p (header_of (slice_get p.segments 0)) (some_first p.segments is.order)
    h.segment.slice_pic_parameter_set_id later.named is.named later.same later.sets in
    let inside : h.segment.slice_segment_address < size_in_ctbs p.sps =
    subst (λ (n : Named). h.segment.slice_segment_address < size_in_ctbs n.sps) same later.inside in
    let one = segment_is p.segments former.dpb p u h is.there header inside in
    record {
      named =
          subst (λ (o : Option SegmentPlan). NamesSets sets p (header_of o))
          (first_stays p.segments s is.order) is.named;
      sps = is.sps;
      pps = is.pps;
      there = is.there;
      headers = All-push (λ (s : SegmentPlan). IsSliceHeader s.header) p.segments s is.headers one.header;
      order = order_more p.segments s is.order later.above;
      inside = All-push (IsInside (size_in_ctbs p.sps)) p.segments s is.inside one.inside;
      slices = slices_one_more p.segments s h refl is.slices;
      references =
          All-push (λ (s : SegmentPlan). IfSome s.lists (AreReferences (length p.rps.marks))) p.segments s
          is.references one.references;
      cut = All-push IsCut p.segments s is.cut one.cut;
    }
