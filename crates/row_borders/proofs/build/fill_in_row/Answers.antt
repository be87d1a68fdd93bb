use Rattle.row_borders.proofs.Holding.{holds}
use Rattle.row_borders.proofs.Sound.{all_placed, few_parameters}
use Rattle.row_borders.proofs.build.fill_in_row.Goals as goal

pub returns-clause-value : goal.returns-clause-value
returns-clause-value g c = λ number others units sound pictures beside beneath.
    let placed = all_placed c.args.source.now.format.now c.args.records.now.items sound in
    let few = few_parameters c.args.source.now.format.now c.args.records.now.items c.requires.depths.luma sound in
    holds c.args.border.now c.args.source.now.plan.now c.args.source.now.segment.now number c.args.records.now others
    units c.args.source.now.format.now c.args.built.now c.fill_unit.new.built _ c.has_shape.ensures c.requires.unit
    c.requires.format pictures beside beneath c.requires.derived placed c.fill_unit.ensures.slice
    c.fill_unit.ensures.motion (c.fill_unit.ensures.filters placed few)
    (λ there. c.fill_unit.ensures.samples there sound)
