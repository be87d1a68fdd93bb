use Rattle.picture_build.proofs.Laid.{laid_all}
use Rattle.picture_build.proofs.lines.lay_unit.Goals as goal

pub returns-clause-value : goal.returns-clause-value
returns-clause-value c =
    laid_all _ _ _ _ _ _ _ c.lay_component.ensures.value c.lay_component-2.ensures.value c.lay_component-3.ensures.value
