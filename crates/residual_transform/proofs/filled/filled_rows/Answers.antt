use Rattle.std.proofs.Common.{rules, ◌≡◌, true}
use Rattle.residual_transform.proofs.Fewer.{one_row_fewer}
use Rattle.residual_transform.proofs.filled.filled_rows.Goals as goal

pub loop-k-preserved : goal.loop-k-preserved
loop-k-preserved g c =
    let none : c.is_zero.result ≡ true = search rules in
    record {
      told = one_row_fewer g.row.SIZE c.loop-k.k c.args.d.now (search rules) c.loop-k.invariant.told
          (c.is_zero.ensures.zero none);
    }
