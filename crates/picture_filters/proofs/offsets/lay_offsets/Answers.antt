use Rattle.std.proofs.Common.{rules, refl, ◌∙◌}
use Rattle.picture_filters.specs.Units.{units_of}
use Rattle.picture_filters.proofs.Units.{units_are_laid}
use Rattle.picture_filters.proofs.offsets.lay_offsets.Goals as goal

pub returns-clause-value : goal.returns-clause-value
returns-clause-value c = λ rows e k i j.
    let first = c.put_unit.ensures.sides _ _ (record { columns = refl; rows = refl }) in
    let second = c.put_unit-2.ensures.sides _ _ first in
    units_are_laid c.args.unit.now.layout c.args.unit.now.address rows c.column-column.result c.row-row.result
    c.args.offsets.now _ (units_of c.args.units.now) (units_of c.put_unit.new.units) (units_of c.put_unit-2.new.units)
    (units_of c.put_unit-3.new.units) k i j (search rules) c.column-column.ensures.value c.row-row.ensures
    (c.put_unit.ensures.values rows e k i j) (c.put_unit-2.ensures.values rows (first.rows ∙ e) k i j)
    (c.put_unit-3.ensures.values rows (second.rows ∙ e) k i j)
