-- slice_segment_header (7.3.6.1), and where the slice segment data begin.
use Rattle.std.specs.Prelude.{ℕ, ◌+◌, ◌-◌, ◌/◌, Bool, List, length, Option, Some, None, Result, Ok, Err, nat_lt}
use Rattle.std.specs.Prelude.{if◌then◌else◌}
use Rattle.hv_base.specs.declared.breach.Breach.{Breach}
use Rattle.hv_base.specs.declared.fault.FaultKind.TheVariants as rule
use Rattle.hv_base.specs.declared.field_rules.TheConstants.{SLICE_HEADER_RULES}
use Rattle.hv_base.specs.declared.nal.Nal.{Nal}
use Rattle.slice_types.specs.HeaderTypes.{Sets}
use Rattle.slice_types.specs.HeaderTypes.{Former}
use Rattle.plan_types.specs.declared.segment_plan.SegmentPlan.{SegmentPlan}
use Rattle.slice_types.specs.declared.slice.SegmentFields.{SegmentFields}
use Rattle.slice_types.specs.declared.slice.SliceFields.{SliceFields}
use Rattle.slice_types.specs.declared.slice.SliceHeaderFields.{SliceHeaderFields}
use Rattle.slice_types.specs.HeaderTypes.{height_in_ctbs}
use Rattle.spec_parameter_sets.specs.SpecBits.{bits}
use Rattle.spec_parameter_sets.specs.SpecBits.{aligned_at}
use Rattle.spec_parameter_sets.specs.SpecFormats.{refuse, when◌then◌else◌}
use Rattle.spec_parameter_sets.specs.SpecFormats.{Header, read, ◌>>=◌, give, u, ue_to, optional, repeated, whole}
use Rattle.spec_slice_headers.specs.Context.{Context, fault, judged, first_of, slice_header, ue_or}
use Rattle.spec_slice_headers.specs.NamedSets.{Named, named_sets}
use Rattle.spec_slice_headers.specs.SegmentStart.{front, place}
use Rattle.spec_slice_headers.specs.SliceFields.{kind_of, slice_fields}

-- the fields that a dependent slice segment takes from its slice
abbrev pub taken_fields : Option SliceHeaderFields → Header SliceFields
taken_fields None = refuse (fault rule.SliceOrder)
taken_fields (Some h) = give h.slice

-- the fields of the segment's slice
abbrev pub fields_of_slice : Context → Named → SegmentFields → Header SliceFields
fields_of_slice c n segment =
    when segment.dependent_slice_segment_flag
    then taken_fields (slice_header c.segments)
    else slice_fields c (first_of c segment.first_slice_segment_in_pic_flag) n

-- an entry point: how many bytes its substream's predecessor has
unfoldable pub entry_point : ℕ → Header ℕ
entry_point len = do
  offset_minus1 ← u len
  give (offset_minus1 + 1)

-- num_entry_point_offsets and the entry points: with entropy coding sync one may stand at each row but the first
unfoldable pub entry_points : Named → Header (List ℕ)
entry_points n = do
  num_entry_point_offsets ← ue_or n.pps.prediction.entropy_coding_sync_enabled_flag (height_in_ctbs n.sps - 1) 0
  offset_len_minus1 ← ue_or (nat_lt 0 num_entry_point_offsets) 31 0
  repeated num_entry_point_offsets (entry_point (offset_len_minus1 + 1))

-- slice_segment_header_extension_length and its bytes
unfoldable pub coded_extension : Header (List ℕ)
coded_extension = do
  slice_segment_header_extension_length ← ue_to 256
  repeated slice_segment_header_extension_length (u 8)

-- a slice segment header up to its byte_alignment(); data_place isn't told yet
unfoldable pub slice_segment_header : Context → Header SliceHeaderFields
slice_segment_header c = do
  front ← front c
  n ← judged (named_sets c front.first_slice_segment_in_pic_flag front.slice_pic_parameter_set_id)
  segment ← place c n front
  slice ← fields_of_slice c n segment
  entry_points ← entry_points n
  extension ← optional n.pps.slice_segment_header_extension_present_flag coded_extension
  give (record {
    nal = c.nal;
    kind = kind_of c n.sps;
    segment = segment;
    slice = slice;
    entry_points = entry_points;
    extension = extension;
    data_place = 0;
  })

-- byte alignment, which has to be there whole
abbrev pub whole_alignment : Result (Bool × List Bool) Breach → Result (Bool × List Bool) Breach
whole_alignment (Err e) = Err e
whole_alignment (Ok x) = if x.0 then Ok x else Err (fault rule.HeaderSyntax)

-- byte_alignment(), which depends on how many bits are left
unfoldable pub alignment : List Bool → Result (Bool × List Bool) Breach
alignment left = whole_alignment (whole SLICE_HEADER_RULES (aligned_at left))

-- the header with the place of the data, which begin at the end of a byte
abbrev pub placed : List ℕ → SliceHeaderFields → Result (Bool × List Bool) Breach → Result SliceHeaderFields Breach
placed payload h (Err e) = Err e
placed payload h (Ok x) = Ok (record h { data_place = length payload - length x.1 / 8 })

-- a header with its alignment
abbrev pub aligned : List ℕ → Result (SliceHeaderFields × List Bool) Breach → Result SliceHeaderFields Breach
aligned payload (Err e) = Err e
aligned payload (Ok x) = placed payload x.0 (alignment x.1)

-- the slice segment header of a unit's payload, or the first rule that it breaks
unfoldable pub slice_header_of : Context → List ℕ → Result SliceHeaderFields Breach
slice_header_of c payload = aligned payload (read SLICE_HEADER_RULES (slice_segment_header c) (bits payload))

-- what the header of a NAL unit is read under
abbrev pub unit_context : Nal → Sets → Former → List SegmentPlan → Context
unit_context nal sets former segments = record {
  nal = nal.index;
  nal_type = nal.nal_type;
  temporal_id = nal.temporal_id;
  sets = sets;
  former = former;
  segments = segments;
}
