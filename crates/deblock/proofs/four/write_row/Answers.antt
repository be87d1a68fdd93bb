use Rattle.std.proofs.Common.{◌+◌}
use Rattle.deblock.proofs.Beside.{row_laid, row_small}
use Rattle.deblock.proofs.four.write_row.Goals as goal

pub returns-clause-value : goal.returns-clause-value
returns-clause-value c =
    row_laid c.args.w.now c.args.out.now _ c.args.lanes (c.args.a + c.args.k) c.args.b _ c.requires.turned
    c.start_of-start.ensures.value (λ n lt. c.requires.inside c.args.k n c.requires.few lt) c.store.ensures.value

pub returns-clause-small : goal.returns-clause-small
returns-clause-small c = λ greatest few old.
    row_small c.args.out.now _ c.args.lanes _ greatest c.store.ensures.value few old
