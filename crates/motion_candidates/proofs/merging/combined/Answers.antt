use Rattle.motion_candidates.proofs.Completed.{are_none, empty}
use Rattle.motion_candidates.proofs.merging.combined.Goals as goal

pub returns-else-slice-clause-beyond : goal.returns-else-slice-clause-beyond
returns-else-slice-clause-beyond c =
    empty c.args.slice.now c.args.found.now c.args.wanted (are_none c.args.slice.now c.args.found.now c.if-slice.false)
