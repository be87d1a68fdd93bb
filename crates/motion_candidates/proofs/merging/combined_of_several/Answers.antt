use Rattle.std.proofs.Common.{arith}
use Rattle.motion_candidates.proofs.Completed.{are_few, empty, err_taken, ok_taken}
use Rattle.motion_candidates.proofs.merging.combined_of_several.Goals as goal

pub returns-else-len-gt1-clause-beyond : goal.returns-else-len-gt1-clause-beyond
returns-else-len-gt1-clause-beyond c =
    empty c.args.slice.now c.args.found.now c.args.wanted (are_few c.args.slice.now c.args.found.now (omega arith))

pub returns-then-len-gt1-clause-within : goal.returns-then-len-gt1-clause-within
returns-then-len-gt1-clause-within c =
    ok_taken c.args.slice.now c.args.found.now c.args.wanted _ c.requires.is_b (omega arith) c.requires.room
    c.nth_combination.ensures.within

pub returns-then-len-gt1-clause-beyond : goal.returns-then-len-gt1-clause-beyond
returns-then-len-gt1-clause-beyond c =
    err_taken c.args.slice.now c.args.found.now c.args.wanted _ c.requires.is_b (omega arith) c.requires.room
    c.nth_combination.ensures.beyond
