use Rattle.std.proofs.Common.{sym, arith}
use Rattle.motion_candidates.proofs.Completed.{found_at, none_at}
use Rattle.motion_candidates.proofs.merging.completed.Goals as goal

pub returns-then-place-len : goal.returns-then-place-len
returns-then-place-len c = cc (found_at c.args.slice.now c.args.found.now c.args.index (omega arith))

pub returns-then-slice-index : goal.returns-then-slice-index
returns-then-slice-index c = sym (none_at c.args.slice.now c.args.found.now c.args.index (omega arith) (omega arith))
