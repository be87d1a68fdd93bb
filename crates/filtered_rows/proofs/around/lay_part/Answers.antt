use Rattle.filtered_rows.proofs.Laying.{none_laid}
use Rattle.std.proofs.Common.{arith}
use Rattle.filtered_rows.proofs.around.lay_part.Goals as goal

pub lay_some-requires-clause-row : goal.lay_some-requires-clause-row
lay_some-requires-clause-row c = (c.requires.part c.if-part.true).inside

pub lay_some-requires-clause-seen : goal.lay_some-requires-clause-seen
lay_some-requires-clause-seen c =
    let part = c.requires.part c.if-part.true in
    c.requires.seen c.args.row part.inside part.up part.down

pub lay_some-requires-clause-top : goal.lay_some-requires-clause-top
lay_some-requires-clause-top c = (c.requires.part c.if-part.true).top

pub lay_some-requires-clause-bottom : goal.lay_some-requires-clause-bottom
lay_some-requires-clause-bottom c = (c.requires.part c.if-part.true).bottom

pub returns-else-part-clause-value : goal.returns-else-part-clause-value
returns-else-part-clause-value c = λ x y column low high.
    let no = c.if-part.false in
    none_laid c.args.part.first c.args.part.end y _ _ (omega (arith, no))
