use Rattle.std.proofs.Common.{rules}
use Rattle.picture_filters.specs.Units.{first_unit}
use Rattle.picture_filters.proofs.Units.{row_units}
use Rattle.picture_filters.proofs.unit_rows.unit_row.Goals as goal

pub returns-then-row-down-clause-values : goal.returns-then-row-down-clause-values
returns-then-row-down-clause-values c = λ column other lt.
    row_units c.args.units.now c.rows.result.now c.args.c c.args.row c.requires (search rules)
    (λ o x j. c.rows.ensures.cells o first_unit x j) column other (search rules)
