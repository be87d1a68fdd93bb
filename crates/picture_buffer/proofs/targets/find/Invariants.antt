use Rattle.std.proofs.Common.{◌-◌, ◌≤◌}
use Rattle.picture_buffer.proofs.targets.find.Given as goal

abbrev pub invariant-loop-k : goal.invariant-loop-k
invariant-loop-k l = record { from : 3 ≤ l.k; to : l.k ≤ l.count }

abbrev pub decreases-loop-k : goal.decreases-loop-k
decreases-loop-k l = l.count - l.k
