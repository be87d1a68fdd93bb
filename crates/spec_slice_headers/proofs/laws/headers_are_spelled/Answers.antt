use Rattle.hv_base.specs.declared.field_rules.TheConstants.{SLICE_HEADER_RULES}
use Rattle.spec_parameter_sets.specs.SpecFormats.{field_at}
use Rattle.spec_parameter_sets.proofs.SpecFormatsLemmas.{agree}
use Rattle.spec_parameter_sets.proofs.SpecFormatsLemmas.{local-read}
use Rattle.spec_slice_headers.specs.SegmentHeader.{slice_segment_header}
use Rattle.spec_slice_headers.proofs.laws.headers_are_spelled.Goals as goal

pub returns : goal.returns
returns c = record {
  spelled = λ context. agree (field_at SLICE_HEADER_RULES) (slice_segment_header context);
  local = λ context. local-read SLICE_HEADER_RULES (slice_segment_header context);
}
