use Rattle.std.specs.Prelude.{ℕ, ◌<◌}
use Rattle.row_waits.specs.Seen.{HasLookedAround, HasRow, MayWait}
use Rattle.row_waits.proofs.reach.wait_for_earlier_pictures.Given as goal

abbrev pub invariant-loop-other : goal.invariant-loop-other
invariant-loop-other g l = record {
  may : MayWait l.board l.picture l.at l.pass l.seen;
  looked : HasLookedAround l.at l.fn.pass l.pass l.fn.seen l.seen;
  has : (j row : ℕ) → j < l.other → HasRow l.picture.layout.now l.seen j row;
}
