use Rattle.deblock.specs.Windows.{seen}
use Rattle.deblock.proofs.Lines.{off_laid, place_laid}
use Rattle.deblock.proofs.edge.filter_known.Goals as goal

pub filter_lines-requires-clause-bounded : goal.filter_lines-requires-clause-bounded
filter_lines-requires-clause-bounded c = rw c.greatest_sample.ensures.value c.requires.bounded

pub returns-clause-value : goal.returns-clause-value
returns-clause-value c = λ places ep eq i j h.
    place_laid c.args.pass.now.plane c.args.pass.now.bit_depth
    places (seen c.args.pass.now.window c.args.out.now)
    c.args.e c.args.s i j c.args.p.now c.args.q.now c.filter_of-filter.result c.greatest_sample.result c.tc-most.result
    c.first_laid.result c.end_laid.result _ c.requires.edge
    ep eq c.filter_of-filter.ensures
    c.greatest_sample.ensures.value c.tc-most.ensures.value c.first_laid.ensures.value c.end_laid.ensures.value
    (c.filter_lines.ensures.value i j h)

pub returns-clause-bounded : goal.returns-clause-bounded
returns-clause-bounded c = rw c.greatest_sample.ensures.value at c.filter_lines.ensures.bounded

pub returns-then-is_off-clause-value : goal.returns-then-is_off-clause-value
returns-then-is_off-clause-value c = λ places ep eq i j h.
    off_laid c.args.pass.now.plane c.args.pass.now.bit_depth
    places (seen c.args.pass.now.window c.args.out.now)
    c.args.e c.args.s i j c.args.p.now c.args.q.now c.filter_of-filter.result c.requires.edge
    ep eq c.filter_of-filter.ensures
    (c.is_off.ensures c.if-is_off.true)
