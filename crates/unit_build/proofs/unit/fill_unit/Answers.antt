use Rattle.std.proofs.Common.{sym, subst}
use Rattle.picture_motion.specs.CtuMotion.{held as motion_held}
use Rattle.picture_filters.specs.declared.given.UnitFilters.{UnitFilters}
use Rattle.picture_filters.specs.Given.{IsGiven}
use Rattle.picture_motion.specs.Deriving.{derived_over}
use Rattle.unit_build.proofs.Joined.{given_is}
use Rattle.unit_build.proofs.unit.fill_unit.Goals as goal

pub returns-in_default-clause-filters : goal.returns-in_default-clause-filters
returns-in_default-clause-filters g c = λ placed few.
    given_is (g.B.MotionBeneath.collocated_at c.args.beside.now) (g.B.MotionBeside.motion_at c.args.beside.now)
    (g.B.Beside.coded_at c.args.beside.now) c.args.source.now.plan.now c.args.source.now.segment.now
    c.unit-unit.result (g.B.Beside.unit_of c.args.beside.now) c.args.built.now.slice c.args.records.now
    (motion_held c.args.built.now.motion) c.give_filters.new.filters c.unit-unit.ensures c.requires.unit
    c.requires.slice (c.requires.motion placed) (c.give_filters.ensures placed few)

pub returns-in-Some-clause-filters : goal.returns-in-Some-clause-filters
returns-in-Some-clause-filters g c = λ placed few.
    subst (λ (f : UnitFilters). IsGiven c.args.source.now.plan.now c.args.source.now.segment.now
    (g.B.Beside.unit_of c.args.beside.now).address c.args.records.now
    (derived_over (g.B.MotionBeneath.collocated_at c.args.beside.now) c.args.source.now.plan.now
    c.args.source.now.segment.now (g.B.Beside.unit_of c.args.beside.now).address c.args.records.now.items
    (g.B.MotionBeside.motion_at c.args.beside.now))
    (g.B.Beside.coded_at c.args.beside.now) f)
    (sym c.build_samples.ensures.filters)
    (given_is (g.B.MotionBeneath.collocated_at c.args.beside.now) (g.B.MotionBeside.motion_at c.args.beside.now)
    (g.B.Beside.coded_at c.args.beside.now) c.args.source.now.plan.now c.args.source.now.segment.now
    c.unit-unit.result (g.B.Beside.unit_of c.args.beside.now) c.args.built.now.slice c.args.records.now
    (motion_held c.args.built.now.motion) c.give_filters.new.filters c.unit-unit.ensures c.requires.unit
    c.requires.slice (c.requires.motion placed) (c.give_filters.ensures placed few))
