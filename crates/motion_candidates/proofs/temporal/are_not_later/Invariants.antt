use Rattle.std.proofs.Common.{◌≡◌, take}
use Rattle.std.specs.List.{list_all}
use Rattle.spec_motion.specs.Temporal.{is_not_later}
use Rattle.motion_candidates.proofs.temporal.are_not_later.Given as goal

abbrev pub invariant-loop-k : goal.invariant-loop-k
invariant-loop-k l = l.all ≡ list_all (is_not_later l.order) (take l.k l.references)
