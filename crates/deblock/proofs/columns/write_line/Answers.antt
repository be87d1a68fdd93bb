use Rattle.std.proofs.Common.{◌+◌}
use Rattle.deblock.proofs.Abreast.{line_laid, laid_small}
use Rattle.deblock.proofs.columns.write_line.Goals as goal

pub returns-clause-value : goal.returns-clause-value
returns-clause-value c =
    line_laid c.args.w.now c.args.out.now _ c.args.lanes c.args.a (c.args.b + c.args.n) _ c.requires.level
    c.start_of_line-start.ensures.value c.requires.inside c.store.ensures.value

pub returns-clause-small : goal.returns-clause-small
returns-clause-small c = λ greatest few old.
    laid_small c.args.out.now _ c.args.lanes _ greatest c.store.ensures.value few old
