use Rattle.motion_candidates.proofs.Completed.{combined_at, zero_at}
use Rattle.motion_candidates.proofs.merging.following.Goals as goal

pub returns-in-Ok : goal.returns-in-Ok
returns-in-Ok c = combined_at c.args.slice.now c.args.found.now c.args.place c.in-Ok.motion c.in-Ok.ensures.within

pub returns-in-Err : goal.returns-in-Err
returns-in-Err c =
    zero_at c.args.slice.now c.args.found.now c.args.place c.in-Err.count _ c.requires c.in-Err.ensures.beyond
    c.zero_candidate.ensures
