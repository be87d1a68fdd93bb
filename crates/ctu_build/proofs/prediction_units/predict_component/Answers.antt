use Rattle.ctu_build.proofs.Rectangles.{component_laid}
use Rattle.ctu_build.proofs.prediction_units.predict_component.Goals as goal

pub returns-clause-value : goal.returns-clause-value
returns-clause-value g c =
    component_laid c.args.source.now.format.now _ c.args.block _ c.args.motion.now c.args.c c.predict.new.out _ _
    c.samples_of.ensures.value c.lay_rectangle.ensures c.predict.ensures.value
