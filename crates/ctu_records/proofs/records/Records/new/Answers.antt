use Rattle.std.proofs.Common.{refl, arith}
use Rattle.ctu_records.specs.Tree.{coding_at, coding_laid, no_coding, luma_mode_at, luma_mode_laid, qp_at, qp_laid}
use Rattle.ctu_records.proofs.Held.{held_none}
use Rattle.ctu_records.proofs.records.Records.new.Goals as goal

pub invariant_of-result : goal.invariant_of-result
unfolding coding_at luma_mode_at qp_at
invariant_of-result c = record {
  small = omega (arith, c.requires.least, c.requires.greatest);
  lefts = refl;
  aboves = refl;
  enough = omega (arith, c.in_ok-items.ensures.capacity);
  coding = held_none no_coding no_coding coding_laid _ _ refl c.in_ok-items.ensures.items;
  mode = held_none 1 1 luma_mode_laid _ _ refl c.in_ok-items.ensures.items;
  qp = held_none 0 0 qp_laid _ _ refl c.in_ok-items.ensures.items;
}
