use Rattle.std.proofs.Common.{rules}
use Rattle.place_grid.proofs.Places.{put_at}
use Rattle.place_grid.proofs.grid.Grid.put.Goals as goal

pub returns-clause-cells : goal.returns-clause-cells
returns-clause-cells g c = λ outside.
    rw (← c.self.view_is) (put_at c.self.inside.across c.self.inside.down c.args.x c.args.y
    c.self.inside.cells.items c.args.value outside c.self.invariant.count (search rules) (search rules))
