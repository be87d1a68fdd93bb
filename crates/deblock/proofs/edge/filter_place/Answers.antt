use Rattle.deblock.specs.Passes.{placed}
use Rattle.deblock.proofs.edge.filter_place.Goals as goal

pub returns-clause-value : goal.returns-clause-value
returns-clause-value g c =
    c.filter_between.ensures.value
    (placed c.args.pass.now.window.turned (g.V.PlaceView.place_at c.args.view.now))
    (rw c.side.ensures.value at c.place-p.ensures) c.requires.place
