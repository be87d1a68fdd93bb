use Rattle.std.proofs.Common.{rules, arith}
use Rattle.ctu_records.specs.declared.item.Item.TheVariants.{Luma}
use Rattle.ctu_records.specs.Tree.{coding_at, coding_laid, no_coding, no_codings, not_read, luma_mode_at}
use Rattle.ctu_records.specs.Tree.{luma_mode_laid, no_mode, qp_at, qp_laid}
use Rattle.ctu_records.proofs.Held.{held_by, held_laid}
use Rattle.ctu_records.proofs.records.Records.set_luma.Goals as goal

pub invariant_of-self : goal.invariant_of-self
unfolding coding_at luma_mode_at qp_at
invariant_of-self c =
    let items = c.self.inside.items.items in
    let e = c.put.ensures.items in
    record {
      small = c.self.invariant.small;
      lefts = c.self.invariant.lefts;
      aboves = c.self.invariant.aboves;
      enough = omega (arith, c.put.ensures.capacity, c.self.invariant.enough);
      coding = held_by no_coding coding_laid no_codings _ items _ (Luma c.args.luma) e c.self.invariant.coding;
      mode =
          held_by 1 luma_mode_laid no_mode _ items _ (Luma c.args.luma) e
          (held_laid 1 _ _ _ _ c.self.inside.modes _ (luma_mode_at items) c.self.invariant.mode (search rules)
          (search rules));
      qp = held_by 0 qp_laid not_read _ items _ (Luma c.args.luma) e c.self.invariant.qp;
    }
