use Rattle.std.proofs.Common.{rules, arith}
use Rattle.ctu_records.specs.declared.item.Item.TheVariants.{Unit}
use Rattle.ctu_records.specs.Tree.{coding_at, coding_laid, no_coding, no_codings, not_read, luma_mode_at}
use Rattle.ctu_records.specs.Tree.{luma_mode_laid, no_mode, qp_at, qp_laid}
use Rattle.ctu_records.proofs.Held.{held_by, held_laid}
use Rattle.ctu_records.proofs.records.Records.begin.Goals as goal

pub invariant_of-self : goal.invariant_of-self
unfolding coding_at luma_mode_at qp_at
invariant_of-self c =
    let items = c.self.inside.items.items in
    let e = c.put.ensures.items in
    record {
      small = c.self.invariant.small;
      lefts = c.self.invariant.lefts;
      aboves = c.self.invariant.aboves;
      enough = omega (arith, c.put.ensures.capacity, c.self.invariant.enough);
      coding =
          held_by no_coding coding_laid no_codings _ items _ (Unit c.args.unit) e
          (held_laid no_coding _ _ _ _ c.self.inside.codings _ (coding_at items) c.self.invariant.coding (search rules)
          (search rules));
      mode = held_by 1 luma_mode_laid no_mode _ items _ (Unit c.args.unit) e c.self.invariant.mode;
      qp =
          held_by 0 qp_laid not_read _ items _ (Unit c.args.unit) e
          (held_laid 0 _ _ _ _ c.self.inside.qps _ (qp_at items) c.self.invariant.qp (search rules) (search rules));
    }
