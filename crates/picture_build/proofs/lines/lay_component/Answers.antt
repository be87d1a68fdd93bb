use Rattle.unit_build.specs.CtuBuild.{held}
use Rattle.picture_build.proofs.Laid.{laid_component}
use Rattle.unit_build.proofs.Covering.{covered}
use Rattle.picture_build.proofs.lines.lay_component.Goals as goal

pub returns-clause-value : goal.returns-clause-value
returns-clause-value c = λ i j k.
    laid_component c.args.unit.now.layout c.args.unit.now.address c.of_unit.result (held c.args.samples.now) _ _
    c.of_unit.ensures.part c.of_unit.ensures.room
    (covered c.args.unit.now.layout c.of_unit.result.c c.of_unit.ensures.shape) c.lay_part.ensures.value c.args.c i j k
    c.of_unit.ensures.component
