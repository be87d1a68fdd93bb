use Rattle.std.proofs.Common.{◌≤◌}
use Rattle.row_trees.specs.Segments.{IsReached}
use Rattle.row_trees.proofs.segments.search.Given as goal

abbrev pub invariant-loop-number : goal.invariant-loop-number
invariant-loop-number l = record { reached : IsReached l.plan l.number l.first; behind : l.first ≤ l.address }
