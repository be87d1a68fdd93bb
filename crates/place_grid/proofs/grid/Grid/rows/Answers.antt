use Rattle.std.proofs.Common.{rules}
use Rattle.place_grid.proofs.Places.{rows_at}
use Rattle.place_grid.proofs.grid.Grid.rows.Goals as goal

pub returns-clause-cells : goal.returns-clause-cells
returns-clause-cells g c = λ other outside.
    rw (c.deref.ensures.value, ← c.self.view_is) (rows_at c.self.inside.across c.self.inside.down c.min-first.result
    c.min-count.result c.args.first c.args.count c.self.inside.cells.items other outside c.self.invariant.count
    (search rules) (search rules))
