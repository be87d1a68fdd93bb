-- The workers so far may begin.
use Rattle.std.proofs.Common.{◌≡◌, All, length}
use Rattle.row_jobs.specs.Boards.{MayBegin}
use Rattle.row_jobs.proofs.board.other_workers.Given as goal

abbrev pub invariant-loop : goal.invariant-loop
invariant-loop l = record {
  count : length l.workers.items ≡ l.counter;
  ready : All (MayBegin l.views) l.workers.items;
}
