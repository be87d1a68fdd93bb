use Rattle.hv_base.specs.declared.field_rules.TheConstants.{SLICE_HEADER_RULES}
use Rattle.spec_slice_headers.specs.SegmentHeader.{slice_segment_header}
use Rattle.spec_written_headers.proofs.Replay.{read_back}
use Rattle.spec_written_headers.proofs.laws.headers_read_back.Goals as goal

pub returns : goal.returns
returns c = λ context. read_back SLICE_HEADER_RULES (slice_segment_header context)
