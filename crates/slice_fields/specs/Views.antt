-- What the values of the code stand for in the definitions.
use Rattle.slice_types.specs.declared.slice.SliceFields.{SliceFields}
use Rattle.spec_slice_headers.specs.Context.{Context}
use Rattle.spec_slice_headers.specs.NamedSets.{Named}
use Rattle.spec_slice_headers.specs.References.{ShortTerm}
use Rattle.spec_slice_headers.specs.SliceFields.{Filters}
use Rattle.slice_fields.specs.declared.context.SegmentContext.{SegmentContext}
use Rattle.slice_fields.specs.declared.context.SliceSets.{SliceSets}
use Rattle.slice_fields.specs.declared.reference_rules.FrontFields.{FrontFields}
use Rattle.slice_fields.specs.declared.references.ShortTermFields.{ShortTermFields}
use Rattle.slice_fields.specs.declared.slice.FilterFields.{FilterFields}
use Rattle.slice_fields.specs.declared.slice.LaterFields.{LaterFields}

abbrev pub context_of : SegmentContext → Context
context_of c = record {
  nal = c.nal;
  nal_type = c.nal_type;
  temporal_id = c.temporal_id;
  sets = c.sets.now;
  former = c.former.now;
  segments = c.segments.now;
}

abbrev pub named_of : SliceSets → Named
named_of n = record { pps = n.pps.now; sps = n.sps.now }

abbrev pub short_term_of : ShortTermFields → ShortTerm
short_term_of s = record {
  short_term_ref_pic_set_sps_flag = s.short_term_ref_pic_set_sps_flag;
  short_term_ref_pic_set_idx = s.short_term_ref_pic_set_idx;
  short_term_ref_pic_set = s.short_term_ref_pic_set;
}

abbrev pub filters_of : FilterFields → Filters
filters_of f = record {
  slice_qp_delta = f.slice_qp_delta;
  slice_cb_qp_offset = f.slice_cb_qp_offset;
  slice_cr_qp_offset = f.slice_cr_qp_offset;
  deblocking = f.deblocking;
  slice_loop_filter_across_slices_enabled_flag = f.slice_loop_filter_across_slices_enabled_flag;
}

-- the fields of a slice: those up to its reference fields, and those behind them
abbrev pub joined : FrontFields → LaterFields → SliceFields
joined front later = record {
  slice_type = front.slice_type;
  pic_output_flag = front.pic_output_flag;
  references = front.references;
  slice_temporal_mvp_enabled_flag = later.slice_temporal_mvp_enabled_flag;
  slice_sao_luma_flag = later.slice_sao_luma_flag;
  slice_sao_chroma_flag = later.slice_sao_chroma_flag;
  inter = later.inter;
  slice_qp_delta = later.filters.slice_qp_delta;
  slice_cb_qp_offset = later.filters.slice_cb_qp_offset;
  slice_cr_qp_offset = later.filters.slice_cr_qp_offset;
  deblocking = later.filters.deblocking;
  slice_loop_filter_across_slices_enabled_flag = later.filters.slice_loop_filter_across_slices_enabled_flag;
}
