-- The front of a slice segment header: the fields that each segment has, up to slice_segment_address (7.3.6.1).
use Rattle.std.specs.Prelude.{ℕ, Bool, true, false, ◌||◌, ◌&&◌, Option, Some, None, is_some, nat_lt, ◌==◌}
use Rattle.std.specs.Bool.{beq}
use Rattle.std.specs.Option.{option_eq}
use Rattle.hv_base.specs.declared.fault.FaultKind.TheVariants as rule
use Rattle.slice_types.specs.declared.slice.SegmentFields.{SegmentFields}
use Rattle.plan_types.specs.BlockGeometry.{is_decoded_before}
use Rattle.slice_types.specs.HeaderTypes.{size_in_ctbs}
use Rattle.spec_parameter_sets.specs.SpecFormats.{wanted, when◌then◌else◌}
use Rattle.spec_parameter_sets.specs.SpecFormats.{Header, ◌>>=◌, give, ranged, u, flag, ue_to, optional}
use Rattle.spec_parameter_sets.specs.SpecReferencePictures.{is_irap}
use Rattle.spec_slice_headers.specs.Context.{Context, fault, ceil_log2, agrees, first_of, flag_or, last_address}
use Rattle.spec_slice_headers.specs.NamedSets.{Named}

-- the fields before the parameter sets are known; where the segment stands is inferred, as of the picture's first one
unfoldable pub front : Context → Header SegmentFields
front c = do
  first ← flag
  opened ← wanted (first || is_some (first_of c false)) (fault rule.SliceOrder)
  same_unit ←
      wanted (agrees (first_of c first) (λ h. (h.kind.nal_type == c.nal_type) && (h.kind.temporal_id == c.temporal_id)))
      (fault rule.SliceMismatch)
  no_output_of_prior_pics_flag ← optional (is_irap c.nal_type) flag
  same_output ←
      wanted (agrees (first_of c first)
      (λ h. option_eq beq h.segment.no_output_of_prior_pics_flag no_output_of_prior_pics_flag))
      (fault rule.SliceMismatch)
  slice_pic_parameter_set_id ← ue_to 63
  give (record {
    first_slice_segment_in_pic_flag = first;
    no_output_of_prior_pics_flag = no_output_of_prior_pics_flag;
    slice_pic_parameter_set_id = slice_pic_parameter_set_id;
    dependent_slice_segment_flag = false;
    slice_segment_address = 0;
  })

-- whether an address is behind the one before in decoding order, where there is one
abbrev pub is_above : Option ℕ → ℕ → Bool
is_above None address = true
is_above (Some before) address = is_decoded_before before address

-- dependent_slice_segment_flag and slice_segment_address of a segment that isn't the picture's first
unfoldable pub later_place : Context → Named → SegmentFields → Header SegmentFields
later_place c n segment = do
  dependent_slice_segment_flag ← flag_or n.pps.slice_defaults.dependent_slice_segments_enabled_flag false
  slice_segment_address ← u (ceil_log2 (size_in_ctbs n.sps))
  in_range ← ranged (nat_lt 0 slice_segment_address && nat_lt slice_segment_address (size_in_ctbs n.sps))
  in_order ← wanted (is_above (last_address c.segments) slice_segment_address) (fault rule.SliceOrder)
  give (record segment {
    dependent_slice_segment_flag = dependent_slice_segment_flag;
    slice_segment_address = slice_segment_address;
  })

-- a picture's first segment begins at its first coding tree unit
unfoldable pub place : Context → Named → SegmentFields → Header SegmentFields
place c n segment = when segment.first_slice_segment_in_pic_flag then give segment else later_place c n segment
