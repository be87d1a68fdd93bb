use Rattle.slice_headers.proofs.Ranges.{header_in_range}
use Rattle.slice_headers.proofs.segment_header.read_slice_header.Goals as goal

pub new-requires : goal.new-requires
new-requires c =
    header_in_range _ _ _ _ _ c.in_ok-fields.ensures.value c.in_ok-fields.ensures.named c.in_ok-fields.ensures.taken
