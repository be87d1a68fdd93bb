use Rattle.ctu_build.proofs.Squares.{pulses_component}
use Rattle.ctu_build.proofs.pulses.lay_component.Goals as goal

pub returns : goal.returns
returns c small =
    pulses_component c.args.place c.args.pulses.now.first c.args.pulses.now.places c.area.result
    c.args.pulses.now.items.now _ _ _
    c.lay.ensures c.shift_samples.ensures c.area.ensures.value small
