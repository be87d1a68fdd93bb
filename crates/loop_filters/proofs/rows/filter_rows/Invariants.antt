use Rattle.deblock.specs.Windows.{at}
use Rattle.loop_filters.specs.Rows.{IsBetween}
use Rattle.loop_filters.proofs.rows.filter_rows.Given as goal

abbrev pub invariant-loop-row : goal.invariant-loop-row
invariant-loop-row g l =
    IsBetween (g.V.FilterView.shape l.view) l.component (g.V.PlaceView.place_at l.view) (g.V.FilterView.unit_at l.view)
    (at l.component.width l.fn.samples) l.row l.samples l.last
