use Rattle.std.proofs.Common.{rules}
use Rattle.slice_types.proofs.Copies.{slice_copied}
use Rattle.slice_headers.proofs.segment_header.taken_fields.Goals as goal

pub returns-in_ok-clone-in-Some-clause-value : goal.returns-in_ok-clone-in-Some-clause-value
returns-in_ok-clone-in-Some-clause-value c =
    let copied = slice_copied _ _ c.in_ok-clone-in-Some.ensures.cases in search rules
