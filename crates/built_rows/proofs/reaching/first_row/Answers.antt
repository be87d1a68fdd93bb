use Rattle.std.proofs.Common.{◌*◌, ap}
use Rattle.hv_base.specs.declared.line.Line.{Line}
use Rattle.built_rows.proofs.Reach.{first_row_is}
use Rattle.built_rows.proofs.reaching.first_row.Goals as goal

pub returns-clause-value : goal.returns-clause-value
returns-clause-value c facts is =
    first_row_is facts c.args.picture.now is c.args.at.now c.requires c.line.ensures.unit c.side_in_places-side.result _
    c.side_in_places-side.ensures.value
    (ap (λ (l : Line). c.side_in_places-side.result * l.row) c.line.ensures.value)
