-- The segments so far break no rule.
use Rattle.std.proofs.Common.{◌≡◌, drop}
use Rattle.spec_picture_plan.specs.Closing.{broken_from}
use Rattle.picture_headers.proofs.closing.broken_from.Given as goal

abbrev pub invariant-loop-i : goal.invariant-loop-i
invariant-loop-i l = broken_from l.width l.size l.start (drop l.i l.segments) ≡ broken_from l.width l.size 0 l.segments
