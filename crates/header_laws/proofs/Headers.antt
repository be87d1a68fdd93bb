-- The ranges of slice segment headers that are read.
use Rattle.std.proofs.Common.{◌≡◌, ℕ, ◌+◌, ◌-◌, ◌^◌, ◌/◌, ◌<◌, ◌≤◌}
use Rattle.std.specs.Prelude.{Bool}
use Rattle.std.proofs.Common.{true, false, List, [], ◌∷◌, length, Option}
use Rattle.std.proofs.Common.{IfSome, All, Result, Ok, Err, if◌then◌else◌, refl, subst, arith}
use Rattle.std.specs.Prelude.{nat_lt}
use Rattle.std.proofs.Math.Nat.{one-le-pow, pow-le-pow_right}
use Rattle.std.proofs.lemmas.List.Elements.{All-weaker}
use Rattle.hv_base.specs.declared.breach.Breach.{Breach}
use Rattle.hv_base.specs.declared.field_rules.TheConstants.{SLICE_HEADER_RULES}
use Rattle.header_types.specs.declared.sps.SpsFields.{SpsFields}
use Rattle.slice_types.specs.declared.slice.ReferenceFields.{ReferenceFields}
use Rattle.slice_types.specs.declared.slice.SegmentFields.{SegmentFields}
use Rattle.slice_types.specs.declared.slice.SliceFields.{SliceFields}
use Rattle.slice_types.specs.declared.slice.SliceHeaderFields.{SliceHeaderFields}
use Rattle.header_types.specs.SequenceParameterSets.{max_lsb}
use Rattle.slice_types.specs.SliceHeaders.{IsSliceFields, IsSliceHeader}
use Rattle.spec_slice_headers.specs.PlanTypes.{SegmentPlan}
use Rattle.spec_bits.specs.Bits.{bits}
use Rattle.spec_formats.specs.Format.{when◌then◌else◌}
use Rattle.spec_formats.specs.Fields.{read, give}
use Rattle.spec_formats.proofs.Values.{CanBe, can_be}
use Rattle.spec_slice_headers.specs.SpecReferencePictures.{is_idr}
use Rattle.spec_slice_headers.specs.Context.{Context, first_of}
use Rattle.spec_slice_headers.specs.Context.{slice_header}
use Rattle.spec_slice_headers.specs.NamedSets.{Named, named_by}
use Rattle.spec_slice_headers.specs.References.{coded_references}
use Rattle.spec_slice_headers.specs.References.{no_references}
use Rattle.spec_slice_headers.specs.References.{reference_fields}
use Rattle.spec_slice_headers.specs.SegmentHeader.{aligned, alignment, taken_fields, entry_point, entry_points}
use Rattle.spec_slice_headers.specs.SegmentHeader.{placed}
use Rattle.spec_slice_headers.specs.SegmentHeader.{slice_header_of, slice_segment_header}
use Rattle.spec_slice_headers.specs.SegmentStart.{front, later_place, place}
use Rattle.spec_slice_headers.specs.SliceFields.{later_fields}
use Rattle.spec_slice_headers.specs.SliceFields.{slice_fields}
use Rattle.header_laws.specs.Ranges.{AreSets, HaveSlices, IsNamed}
use Rattle.header_laws.proofs.Values.{repeated_is, ue_or_is}
use Rattle.header_laws.proofs.Slices.{fields_either, slice_header_is}
use Rattle.header_laws.proofs.NamedSets.{are_named, named_by_is}

point_is : (len n : ℕ) → len ≤ 32 → CanBe (entry_point len) n → (1 ≤ n) × (n ≤ 2 ^ 32)
unfolding entry_point
point_is len n le (minus1, small, e) =
    let most : 2 ^ len ≤ 2 ^ 32 = pow-le-pow_right (omega arith) le in
    rw (← e) (omega arith, omega arith)

points_are : (n : Named) (points : List ℕ) → CanBe (entry_points n) points → All (λ k. (1 ≤ k) × (k ≤ 2 ^ 32)) points
unfolding entry_points
points_are n points (count, count-is, (len, len-is, is)) =
    let le = ue_or_is (nat_lt 0 count) 31 0 len (omega arith) len-is in
    (repeated_is (λ k. (1 ≤ k) × (k ≤ 2 ^ 32)) count (entry_point (len + 1)) points
    (λ k is. point_is (len + 1) k (omega arith) is) is).1

front_id : (c : Context) (f : SegmentFields) → CanBe (front c) f → f.slice_pic_parameter_set_id ≤ 63
unfolding front
front_id c f
    (first, first-is, (opened, opened-is, (unit, unit-is, (prior, prior-is, (output, output-is, (id, id-is, e)))))) =
    rw (← e) id-is

later_id : (c : Context) (n : Named) (f s : SegmentFields) → CanBe (later_place c n f) s
    → s.slice_pic_parameter_set_id ≡ f.slice_pic_parameter_set_id
unfolding later_place
later_id c n f s (dependent, dependent-is, (address, address-is, (fact, in_range, (order, in_order, e)))) =
    rw (← e) refl

place_id_either : (first : Bool) (c : Context) (n : Named) (f s : SegmentFields)
    → CanBe (when first then give f else later_place c n f) s
    → s.slice_pic_parameter_set_id ≡ f.slice_pic_parameter_set_id
place_id_either true c n f s e = rw (← e) refl
place_id_either false c n f s is = later_id c n f s is

pub place_id : (c : Context) (n : Named) (f s : SegmentFields) → CanBe (place c n f) s
    → s.slice_pic_parameter_set_id ≡ f.slice_pic_parameter_set_id
unfolding place
place_id c n f s is = place_id_either f.first_slice_segment_in_pic_flag c n f s is

lsb_within : (log2 : ℕ) → log2 ≤ 12 → (16 ≤ 2 ^ (log2 + 4)) × (2 ^ (log2 + 4) ≤ 65536)
lsb_within log2 le =
    let some : 4 ≤ log2 + 4 = omega arith in
    let few : log2 + 4 ≤ 16 = omega arith in
    let least : 2 ^ 4 ≤ 2 ^ (log2 + 4) = pow-le-pow_right (omega arith) some in
    let most : 2 ^ (log2 + 4) ≤ 2 ^ 16 = pow-le-pow_right (omega arith) few in
    (omega arith, omega arith)

-- a header that is read is in range, where the sets that it names are, and the slice that a dependent segment takes
pub header_is : (c : Context) (h : SliceHeaderFields)
    → IfSome (named_by c.sets h.segment.slice_pic_parameter_set_id) IsNamed
    → (h.segment.dependent_slice_segment_flag ≡ true → IfSome (slice_header c.segments) (λ s. IsSliceFields s.slice))
    → CanBe (slice_segment_header c) h → IsSliceHeader h
unfolding slice_segment_header
header_is c h is have
    (f, f-is, (n, n-is, (segment, segment-is, (s, s-is, (points, points-is, (extension, extension-is, e)))))) =
    let same = place_id c n f segment segment-is in
    let sets = (are_named c f.first_slice_segment_in_pic_flag f.slice_pic_parameter_set_id n n-is).sets in
    let is' : IfSome (named_by c.sets segment.slice_pic_parameter_set_id) IsNamed = rw (← e) at is in
    let named : IsNamed n = rw (same, sets) at is' in
    let lsb = lsb_within n.sps.order.log2_max_pic_order_cnt_lsb_minus4 named.sps.order.lsb in
    let each = points_are n points points-is in
    let have' : segment.dependent_slice_segment_flag ≡ true
    → IfSome (slice_header c.segments) (λ s. IsSliceFields s.slice) = rw (← e) at have in
    rw (← e) (record {
      least_max_lsb = lsb.0;
      greatest_max_lsb = lsb.1;
      pps_id = rw same (front_id c f f-is);
      slice = fields_either c n segment segment.dependent_slice_segment_flag s named have' s-is;
      some_bytes = All-weaker (λ k. (1 ≤ k) × (k ≤ 2 ^ 32)) (λ k. 1 ≤ k) (λ k h. h.0) points each;
      few_bytes = All-weaker (λ k. (1 ≤ k) × (k ≤ 2 ^ 32)) (λ k. k ≤ 2 ^ 32) (λ k h. h.1) points each;
    })

-- the order count of a picture's first header

lsb_either : (idr : Bool) (sps : SpsFields) (r : ReferenceFields)
    → CanBe (when idr then give no_references else coded_references sps) r → r.slice_pic_order_cnt_lsb < max_lsb sps
unfolding coded_references
lsb_either true sps r e = rw (← e) (one-le-pow (sps.order.log2_max_pic_order_cnt_lsb_minus4 + 4) 2 (omega arith))
lsb_either false sps r (lsb, lsb-is, (short, short-is, (long, long-ok, e))) = rw (← e) lsb-is

references_lsb : (nal_type : ℕ) (sps : SpsFields) (r : ReferenceFields) → CanBe (reference_fields nal_type sps) r
    → r.slice_pic_order_cnt_lsb < max_lsb sps
unfolding reference_fields
references_lsb nal_type sps r can = lsb_either (is_idr nal_type) sps r can

slice_lsb : (c : Context) (former : Option SliceHeaderFields) (n : Named) (s : SliceFields)
    → CanBe (slice_fields c former n) s → s.references.slice_pic_order_cnt_lsb < max_lsb n.sps
unfolding slice_fields later_fields
slice_lsb c former n s (
  reserved,
  a,
  (
    type,
    b,
    (
      output,
      d,
      (
        references,
        references-is,
        (rules, g, (temporal, h, (luma, i, (chroma, j, (inter, k, (filters, l, e)))))),
      ),
    ),
  ),
) =
    rw (← e) (references_lsb c.nal_type n.sps references references-is)

own_lsb : (c : Context) (n : Named) (former : Option SliceHeaderFields) (segments : List SegmentPlan) (dependent : Bool)
    (s : SliceFields)
    → segments ≡ []
    → CanBe (when dependent then taken_fields (slice_header segments) else slice_fields c former n) s
    → s.references.slice_pic_order_cnt_lsb < max_lsb n.sps
own_lsb c n former [] true s none can = absurd can
own_lsb c n former (first ∷ later) true s none can = absurd cc
own_lsb c n former segments false s none can = slice_lsb c former n s can

-- slice_pic_order_cnt_lsb is below MaxPicOrderCntLsb, where no segment came before
pub first_lsb : (c : Context) (h : SliceHeaderFields) → c.segments ≡ [] → CanBe (slice_segment_header c) h
    → h.slice.references.slice_pic_order_cnt_lsb < h.kind.max_lsb
unfolding slice_segment_header
first_lsb c h none
    (f, f-is, (n, n-is, (segment, segment-is, (s, s-is, (points, points-is, (extension, extension-is, e)))))) =
    rw (← e) (own_lsb c n (first_of c segment.first_slice_segment_in_pic_flag) c.segments
    segment.dependent_slice_segment_flag s none s-is)

-- a header but for the place of its data
pub record IsPlaced (h g : SliceHeaderFields) : Type 0 where
  pub at : ℕ
  pub is : record (g) { data_place = at } ≡ h

placed_from : (payload : List ℕ) (g h : SliceHeaderFields) (r : Result (Bool × List Bool) Breach)
    → placed payload g r ≡ Ok h → IsPlaced h g
placed_from payload g h (Ok x) e = record { at = length payload - length x.1 / 8; is = cc }
placed_from payload g h (Err f) e = absurd cc

aligned_from : (payload : List ℕ) (r : Result (SliceHeaderFields × List Bool) Breach) (h : SliceHeaderFields)
    → aligned payload r ≡ Ok h
    → (g : SliceHeaderFields) × (t : List Bool) × (r ≡ Ok (g, t)) × IsPlaced h g
aligned_from payload (Ok x) h e = (x.0, x.1, refl, placed_from payload x.0 h (alignment x.1) e)
aligned_from payload (Err f) h e = absurd cc

-- an accepted header is one that is read, but for the place of its data
pub read_from : (c : Context) (payload : List ℕ) (h : SliceHeaderFields) → slice_header_of c payload ≡ Ok h
    → (g : SliceHeaderFields)
    × (t : List Bool)
    × (read SLICE_HEADER_RULES (slice_segment_header c) (bits payload) ≡ Ok (g, t))
    × IsPlaced h g
unfolding slice_header_of
read_from c payload h e = aligned_from payload (read SLICE_HEADER_RULES (slice_segment_header c) (bits payload)) h e

-- the place of the data has no range of its own
pub placed_is : (h : SliceHeaderFields) (at : ℕ) → IsSliceHeader h → IsSliceHeader (record (h) { data_place = at })
placed_is h at is = record {
  least_max_lsb = is.least_max_lsb;
  greatest_max_lsb = is.greatest_max_lsb;
  pps_id = is.pps_id;
  slice = is.slice;
  some_bytes = is.some_bytes;
  few_bytes = is.few_bytes;
}

pub header_in_range : (c : Context) (payload : List ℕ) (h : SliceHeaderFields) → AreSets c.sets → HaveSlices c.segments
    → slice_header_of c payload ≡ Ok h → IsSliceHeader h
header_in_range c payload h are have e =
    let from = read_from c payload h e in
    let can = can_be SLICE_HEADER_RULES (slice_segment_header c) (bits payload) from.1 from.0 from.2 in
    let is =
    header_is c from.0 (named_by_is c.sets from.0.segment.slice_pic_parameter_set_id _ are refl)
    (λ _. slice_header_is c.segments have) can in
    subst IsSliceHeader from.3.is (placed_is from.0 from.3.at is)

pub first_lsb_in_range : (c : Context) (payload : List ℕ) (h : SliceHeaderFields) → c.segments ≡ []
    → slice_header_of c payload ≡ Ok h → h.slice.references.slice_pic_order_cnt_lsb < h.kind.max_lsb
first_lsb_in_range c payload h none e =
    let from = read_from c payload h e in
    let small =
    first_lsb c from.0 none (can_be SLICE_HEADER_RULES (slice_segment_header c) (bits payload) from.1 from.0 from.2) in
    subst (λ (g : SliceHeaderFields). g.slice.references.slice_pic_order_cnt_lsb < g.kind.max_lsb) from.3.is small
