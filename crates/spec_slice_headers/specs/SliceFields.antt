-- The fields of a slice, from slice_reserved_flag to slice_loop_filter_across_slices_enabled_flag (7.3.6.1, 7.4.7.1).
use Rattle.std.specs.Prelude.{ℕ, ◌+◌, ℤ, pos, ◌+ℤ◌, Bool, true, false, not, ◌&&◌, ◌||◌, Option, Some, None}
use Rattle.std.specs.Prelude.{◌==◌, if◌then◌else◌}
use Rattle.std.specs.Bool.{beq}
use Rattle.hv_base.specs.declared.fault.FaultKind.TheVariants as rule
use Rattle.slice_types.specs.HeaderTypes.{SpsFields}
use Rattle.slice_types.specs.HeaderTypes.{PpsFields}
use Rattle.slice_types.specs.HeaderTypes.{DeblockingControl}
use Rattle.slice_types.specs.declared.slice.SliceType.{SliceType}
use Rattle.slice_types.specs.declared.slice.SliceType.TheVariants as slice
use Rattle.slice_types.specs.declared.slice.PictureKind.{PictureKind}
use Rattle.slice_types.specs.declared.slice.ReferenceFields.{ReferenceFields}
use Rattle.slice_types.specs.declared.slice.InterFields.{InterFields}
use Rattle.slice_types.specs.declared.slice.SliceDeblocking.{SliceDeblocking}
use Rattle.slice_types.specs.declared.slice.SliceFields.{SliceFields}
use Rattle.slice_types.specs.declared.slice.SliceHeaderFields.{SliceHeaderFields}
use Rattle.slice_types.specs.HeaderTypes.{max_lsb, qp_bd_offset_y}
use Rattle.spec_parameter_sets.specs.SpecFormats.{wanted, when◌then◌else◌}
use Rattle.spec_parameter_sets.specs.SpecFormats.{Header, ◌>>=◌, give, ranged, is_within, u, flag, ue_to, se}
use Rattle.spec_parameter_sets.specs.SpecFormats.{se_within, optional}
use Rattle.spec_parameter_sets.specs.SpecReferencePictures.{is_irap, is_idr}
use Rattle.spec_parameter_sets.specs.SpecReferencePictures.{num_pic_total_curr}
use Rattle.spec_slice_headers.specs.Context.{Context, fault, judged, no_rasl_output_flag, agrees, flag_or}
use Rattle.spec_slice_headers.specs.NamedSets.{Named}
use Rattle.spec_slice_headers.specs.ReferenceRules.{is_i, judged_references}
use Rattle.spec_slice_headers.specs.References.{reference_fields}
use Rattle.spec_slice_headers.specs.InterFields.{inter_fields}

-- what is known of the picture before its slices are read
abbrev pub kind_of : Context → SpsFields → PictureKind
kind_of c sps = record {
  nal_type = c.nal_type;
  temporal_id = c.temporal_id;
  no_rasl_output_flag = no_rasl_output_flag c.nal_type c.former.first_in_sequence;
  max_lsb = max_lsb sps;
}

-- slice_type (Table 7-7)
abbrev pub type_of : ℕ → SliceType
type_of n = if n == 0 then slice.B else (if n == 1 then slice.P else slice.I)

-- slice_type: an intra random access point has I slices alone
unfoldable pub slice_type : Context → Header SliceType
slice_type c = do
  code ← ue_to 2
  intra ← wanted (not (is_irap c.nal_type) || (code == 2)) (fault rule.SliceType)
  give (type_of code)

-- slice_temporal_mvp_enabled_flag, which all segments of a picture have alike
unfoldable pub temporal_flag : Context → Option SliceHeaderFields → SpsFields → Header Bool
temporal_flag c former sps = do
  slice_temporal_mvp_enabled_flag ←
      flag_or (not (is_idr c.nal_type) && sps.references.sps_temporal_mvp_enabled_flag) false
  same_temporal ←
      wanted (agrees former (λ h. beq h.slice.slice_temporal_mvp_enabled_flag slice_temporal_mvp_enabled_flag))
      (fault rule.SliceMismatch)
  give slice_temporal_mvp_enabled_flag

-- the fields of a P or B slice
abbrev pub inter_of : SliceType → PpsFields → ℕ → Bool → Header (Option InterFields)
inter_of type pps total temporal = optional (not (is_i type)) (inter_fields type pps total temporal)

-- SliceQpY (7-40)
abbrev pub slice_qp : PpsFields → ℤ → ℤ
slice_qp pps slice_qp_delta = pos 26 +ℤ pps.quantization.init_qp_minus26 +ℤ slice_qp_delta

-- slice_qp_delta: SliceQpY is from -QpBdOffsetY to 51
unfoldable pub qp_delta : SpsFields → PpsFields → Header ℤ
qp_delta sps pps = do
  slice_qp_delta ← se
  in_range ← ranged (is_within (qp_bd_offset_y sps) 51 (slice_qp pps slice_qp_delta))
  give slice_qp_delta

-- slice_cb_qp_offset or slice_cr_qp_offset: from -12 to 12, and so is its sum with that of the picture parameter set
unfoldable pub chroma_offset : Bool → ℤ → Header ℤ
chroma_offset false offset = give (pos 0)
chroma_offset true offset = do
  slice_offset ← se_within 12 12
  in_range ← ranged (is_within 12 12 (offset +ℤ slice_offset))
  give slice_offset

-- the deblocking of the picture parameter set: the filter is on where it tells nothing
abbrev pub control_of : Option DeblockingControl → DeblockingControl
control_of None = record {
  deblocking_filter_override_enabled_flag = false;
  pps_deblocking_filter_disabled_flag = false;
  pps_beta_offset_div2 = pos 0;
  pps_tc_offset_div2 = pos 0;
}
control_of (Some control) = control

-- the deblocking parameters of the picture parameter set
abbrev pub pps_deblocking : Bool → DeblockingControl → SliceDeblocking
pps_deblocking override control = record {
  deblocking_filter_override_flag = override;
  slice_deblocking_filter_disabled_flag = control.pps_deblocking_filter_disabled_flag;
  slice_beta_offset_div2 = control.pps_beta_offset_div2;
  slice_tc_offset_div2 = control.pps_tc_offset_div2;
}

-- the deblocking fields of a slice that overrides those of the picture parameter set. Where it disables the filter the
-- offsets aren't coded, and are those of the picture parameter set
unfoldable pub own_deblocking : DeblockingControl → Header SliceDeblocking
own_deblocking control = do
  slice_deblocking_filter_disabled_flag ← flag
  when slice_deblocking_filter_disabled_flag
      then give (record (pps_deblocking true control) { slice_deblocking_filter_disabled_flag = true })
      else (do
        slice_beta_offset_div2 ← se_within 6 6
        slice_tc_offset_div2 ← se_within 6 6
        give (record {
          deblocking_filter_override_flag = true;
          slice_deblocking_filter_disabled_flag = false;
          slice_beta_offset_div2 = slice_beta_offset_div2;
          slice_tc_offset_div2 = slice_tc_offset_div2;
        }))

-- those of a slice
unfoldable pub deblocking : DeblockingControl → Header SliceDeblocking
deblocking control = do
  deblocking_filter_override_flag ← flag_or control.deblocking_filter_override_enabled_flag false
  when deblocking_filter_override_flag then own_deblocking control else give (pps_deblocking false control)

-- slice_loop_filter_across_slices_enabled_flag, which is coded where some filter may pass the slice's edges
abbrev pub across_slices : PpsFields → Bool → SliceDeblocking → Header Bool
across_slices pps has_sao d =
    flag_or
    (pps.filters.pps_loop_filter_across_slices_enabled_flag
    && (has_sao || not d.slice_deblocking_filter_disabled_flag))
    pps.filters.pps_loop_filter_across_slices_enabled_flag

-- the fields of a slice's quantization and of its filters
pub record Filters : Type 0 where
  pub slice_qp_delta : ℤ
  pub slice_cb_qp_offset : ℤ
  pub slice_cr_qp_offset : ℤ
  pub deblocking : SliceDeblocking
  pub slice_loop_filter_across_slices_enabled_flag : Bool

-- quantization parameter, chroma offsets and filters of a slice (7.3.6.1)
unfoldable pub filter_fields : SpsFields → PpsFields → Bool → Header Filters
filter_fields sps pps has_sao = do
  slice_qp_delta ← qp_delta sps pps
  slice_cb_qp_offset ←
      chroma_offset pps.quantization.pps_slice_chroma_qp_offsets_present_flag pps.quantization.pps_cb_qp_offset
  slice_cr_qp_offset ←
      chroma_offset pps.quantization.pps_slice_chroma_qp_offsets_present_flag pps.quantization.pps_cr_qp_offset
  deblocking ← deblocking (control_of pps.filters.deblocking_control)
  slice_loop_filter_across_slices_enabled_flag ← across_slices pps has_sao deblocking
  give (record {
    slice_qp_delta = slice_qp_delta;
    slice_cb_qp_offset = slice_cb_qp_offset;
    slice_cr_qp_offset = slice_cr_qp_offset;
    deblocking = deblocking;
    slice_loop_filter_across_slices_enabled_flag = slice_loop_filter_across_slices_enabled_flag;
  })

-- the fields behind those of the reference pictures
unfoldable pub later_fields : Context → Option SliceHeaderFields → Named → SliceType → Bool → ReferenceFields
    → Header SliceFields
later_fields c former n type output references = do
  slice_temporal_mvp_enabled_flag ← temporal_flag c former n.sps
  slice_sao_luma_flag ← flag_or n.sps.tools.sample_adaptive_offset_enabled_flag false
  slice_sao_chroma_flag ← flag_or n.sps.tools.sample_adaptive_offset_enabled_flag false
  inter ← inter_of type n.pps (num_pic_total_curr references) slice_temporal_mvp_enabled_flag
  filters ← filter_fields n.sps n.pps (slice_sao_luma_flag || slice_sao_chroma_flag)
  give (record {
    slice_type = type;
    pic_output_flag = output;
    references = references;
    slice_temporal_mvp_enabled_flag = slice_temporal_mvp_enabled_flag;
    slice_sao_luma_flag = slice_sao_luma_flag;
    slice_sao_chroma_flag = slice_sao_chroma_flag;
    inter = inter;
    slice_qp_delta = filters.slice_qp_delta;
    slice_cb_qp_offset = filters.slice_cb_qp_offset;
    slice_cr_qp_offset = filters.slice_cr_qp_offset;
    deblocking = filters.deblocking;
    slice_loop_filter_across_slices_enabled_flag = filters.slice_loop_filter_across_slices_enabled_flag;
  })

-- the fields of a slice, where former is the first header of its picture, if that is another one
unfoldable pub slice_fields : Context → Option SliceHeaderFields → Named → Header SliceFields
slice_fields c former n = do
  slice_reserved_flags ← u n.pps.slice_defaults.num_extra_slice_header_bits
  type ← slice_type c
  output ← flag_or n.pps.slice_defaults.output_flag_present_flag true
  references ← reference_fields c.nal_type n.sps
  kept_rules ← judged (judged_references c former (kind_of c n.sps) type output references)
  later_fields c former n type output references
