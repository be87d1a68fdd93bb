use Rattle.std.proofs.Common.{refl, arith, rules}
use Rattle.ctu_records.specs.Tree.{coding_at, coding_laid, no_coding, luma_mode_at, luma_mode_laid, qp_at, qp_laid}
use Rattle.ctu_records.proofs.Held.{held_none}
use Rattle.ctu_records.proofs.records.Records.restart.Goals as goal

pub invariant_of-self : goal.invariant_of-self
unfolding coding_at luma_mode_at qp_at
invariant_of-self c = record {
  small = c.self.invariant.small;
  lefts = search rules;
  aboves = search rules;
  enough = omega (arith, c.clear.ensures.capacity, c.self.invariant.enough);
  coding = held_none no_coding no_coding coding_laid _ _ refl c.clear.ensures.items;
  mode = held_none 1 1 luma_mode_laid _ _ refl c.clear.ensures.items;
  qp = held_none 0 0 qp_laid _ _ refl c.clear.ensures.items;
}
