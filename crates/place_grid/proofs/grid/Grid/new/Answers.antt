use Rattle.place_grid.proofs.Places.{filled_at}
use Rattle.place_grid.proofs.grid.Grid.new.Goals as goal

pub returns-clause-cells : goal.returns-clause-cells
returns-clause-cells g c = λ same.
    filled_at c.args.across c.args.down _ c.in_ok-cells.cells.items c.args.value
    (c.in_ok-cells.ensures.items_if_clones_equal same)
