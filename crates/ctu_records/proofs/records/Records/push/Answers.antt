use Rattle.std.proofs.Common.{arith}
use Rattle.ctu_records.specs.Tree.{coding_at, coding_laid, no_coding, no_codings, not_read, luma_mode_at}
use Rattle.ctu_records.specs.Tree.{luma_mode_laid, no_mode, qp_at, qp_laid}
use Rattle.ctu_records.proofs.Held.{held_by, coding_stays, mode_stays, qp_stays}
use Rattle.ctu_records.proofs.records.Records.push.Goals as goal

pub invariant_of-self : goal.invariant_of-self
unfolding coding_at luma_mode_at qp_at
invariant_of-self c =
    let items = c.self.inside.items.items in
    let e = c.put.ensures.items in
    record {
      small = c.self.invariant.small;
      lefts = c.self.invariant.lefts;
      aboves = c.self.invariant.aboves;
      enough = omega (arith, c.put.ensures.capacity, c.self.invariant.enough);
      coding =
          held_by no_coding coding_laid no_codings _ items _ c.args.item e
          (rw (coding_stays (coding_at items) c.args.item c.requires.plain) c.self.invariant.coding);
      mode =
          held_by 1 luma_mode_laid no_mode _ items _ c.args.item e
          (rw (mode_stays (luma_mode_at items) c.args.item c.requires.plain) c.self.invariant.mode);
      qp =
          held_by 0 qp_laid not_read _ items _ c.args.item e
          (rw (qp_stays (qp_at items) c.args.item c.requires.plain) c.self.invariant.qp);
    }
