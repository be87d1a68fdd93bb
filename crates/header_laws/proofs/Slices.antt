-- The ranges of the fields of slices that are read, and of those that a dependent segment takes.
use Rattle.std.proofs.Common.{◌≡◌, ℕ}
use Rattle.std.specs.Prelude.{Bool}
use Rattle.std.proofs.Common.{true, false, ◌||◌, List, Option, Some, None}
use Rattle.std.proofs.Common.{IfSome, if◌then◌else◌, refl}
use Rattle.std.specs.Prelude.{slice_get}
use Rattle.slice_types.specs.declared.slice.SegmentFields.{SegmentFields}
use Rattle.slice_types.specs.declared.slice.SliceFields.{SliceFields}
use Rattle.slice_types.specs.declared.slice.SliceHeaderFields.{SliceHeaderFields}
use Rattle.slice_types.specs.SliceHeaders.{IsSliceFields}
use Rattle.spec_slice_headers.specs.PlanTypes.{SegmentPlan}
use Rattle.spec_formats.specs.Format.{when◌then◌else◌}
use Rattle.spec_formats.proofs.Values.{CanBe}
use Rattle.spec_slice_headers.specs.Context.{Context, first_of, header_of}
use Rattle.spec_slice_headers.specs.Context.{last_segment, slice_header, slice_of}
use Rattle.spec_slice_headers.specs.NamedSets.{Named}
use Rattle.spec_slice_headers.specs.SegmentHeader.{taken_fields}
use Rattle.spec_slice_headers.specs.SliceFields.{later_fields}
use Rattle.spec_slice_headers.specs.SliceFields.{slice_fields}
use Rattle.header_laws.specs.Ranges.{HaveSlices, IsNamed}
use Rattle.header_laws.proofs.Values.{got_is}
use Rattle.header_laws.proofs.InterFields.{has_inter}
use Rattle.header_laws.proofs.Filters.{filters_are}
use Rattle.header_laws.proofs.References.{references_are}

slice_is : (c : Context) (former : Option SliceHeaderFields) (n : Named) (s : SliceFields) → IsNamed n
    → CanBe (slice_fields c former n) s → IsSliceFields s
unfolding slice_fields later_fields
slice_is c former n s is (
  reserved,
  reserved-is,
  (
    type,
    type-is,
    (
      output,
      output-is,
      (
        references,
        references-is,
        (
          rules,
          rules-are,
          (temporal, temporal-is, (luma, luma-is, (chroma, chroma-is, (inter, inter-is, (filters, filters-is, e))))),
        ),
      ),
    ),
  ),
) =
    let inter_ok = has_inter type n.pps _ temporal inter is.pps inter-is in
    let f = filters_are n.sps n.pps (luma || chroma) filters is.sps is.pps filters-is in
    rw (← e) (record {
      references = references_are c.nal_type n.sps references is.sps references-is;
      type = inter_ok.suits;
      inter = inter_ok.fields;
      qp_delta = f.qp_delta;
      cb_qp_offset = f.cb;
      cr_qp_offset = f.cr;
      deblocking = f.deblocking;
    })

taken_is : (segments : List SegmentPlan) (o : Option SliceHeaderFields) (s : SliceFields)
    → IfSome o (λ h. IsSliceFields h.slice) → CanBe (taken_fields o) s → IsSliceFields s
taken_is segments None s is can = absurd can
taken_is segments (Some h) s is e = rw (← e) is

header_of_is : (segments : List SegmentPlan) (i : ℕ) (o : Option SegmentPlan) → slice_get segments i ≡ o
    → HaveSlices segments → IfSome (header_of o) (λ h. IsSliceFields h.slice)
header_of_is segments i None e have = tt
header_of_is segments i (Some s) e have = got_is (λ (s : SegmentPlan). IsSliceFields s.header.slice) segments i s have e

-- the header of the last slice of segments whose slices are in range
pub slice_header_is : (segments : List SegmentPlan) → HaveSlices segments
    → IfSome (slice_header segments) (λ h. IsSliceFields h.slice)
slice_header_is segments have =
    header_of_is segments (slice_of (last_segment segments))
    (slice_get segments (slice_of (last_segment segments))) refl have

pub fields_either : (c : Context) (n : Named) (segment : SegmentFields) (dependent : Bool) (s : SliceFields) → IsNamed n
    → (dependent ≡ true → IfSome (slice_header c.segments) (λ h. IsSliceFields h.slice))
    → CanBe (when dependent then taken_fields (slice_header c.segments)
    else slice_fields c (first_of c segment.first_slice_segment_in_pic_flag) n)
    s
    → IsSliceFields s
fields_either c n segment true s is have can = taken_is c.segments (slice_header c.segments) s (have refl) can
fields_either c n segment false s is have can =
    slice_is c (first_of c segment.first_slice_segment_in_pic_flag) n s is can
