use Rattle.std.specs.Prelude.{ℕ, ◌<◌, ◌≤◌}
use Rattle.row_waits.specs.Seen.{HasLookedAround, HasRow, MayWait}
use Rattle.row_waits.proofs.reach.wait_for_rows.Given as goal

abbrev pub invariant-loop-row : goal.invariant-loop-row
invariant-loop-row g l = record {
  may : MayWait l.board l.picture l.at l.pass l.seen;
  looked : HasLookedAround l.at l.fn.pass l.pass l.fn.seen l.seen;
  has : (row : ℕ) → l.first ≤ row → row < l.row → HasRow l.picture.layout.now l.seen l.other row;
}
