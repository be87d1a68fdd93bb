use Rattle.row_borders.proofs.Holding.{derived_there}
use Rattle.row_borders.proofs.build.derive_in_row.Goals as goal

pub returns-clause-value : goal.returns-clause-value
returns-clause-value c = λ number others units placed beside beneath.
    derived_there c.args.border.now c.args.source.now.plan.now c.args.source.now.segment.now number c.args.records.now
    others units c.derive_unit.new.built c.requires.unit
    (record { slice = c.derive_unit.ensures.slice; motion = c.derive_unit.ensures.motion }) placed beside beneath
