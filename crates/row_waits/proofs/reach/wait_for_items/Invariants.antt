use Rattle.std.specs.Prelude.{ℕ, ◌<◌}
use Rattle.std.proofs.Common.{get_or}
use Rattle.ctu_records.specs.declared.item.Item.{Item}
use Rattle.row_waits.specs.Seen.{HasLookedAround, HasReach, MayWait}
use Rattle.row_waits.proofs.reach.wait_for_items.Given as goal

abbrev pub invariant-loop-k : goal.invariant-loop-k
invariant-loop-k g l = record {
  may : MayWait l.board l.picture l.at l.pass l.seen;
  looked : HasLookedAround l.at l.fn.pass l.pass l.fn.seen l.seen;
  has : (i : ℕ) (d : Item) → i < l.k → HasReach l.picture.layout.now l.seen l.source (get_or l.items i d);
}
