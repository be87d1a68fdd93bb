use Rattle.filter_locality_laws.specs.Rows.{behind_horizontal, behind_vertical}
use Rattle.row_filters.proofs.Places.{fewer_places, kept_places}
use Rattle.row_filters.proofs.row_steps.final_lines.Goals as goal

pub returns : goal.returns
returns g c = λ places units f are known held.
    let k = c.args.component.now in
    let shape = g.V.FilterView.shape c.args.view.now in
    let at = g.V.PlaceView.place_at c.args.view.now in
    c.offset_among.ensures places units
    (behind_horizontal shape places k.c (behind_vertical shape places k.c f))
    (kept_places shape c.args.row places at are) known
    (c.horizontal_lines.ensures.value places (behind_vertical shape places k.c f)
    (fewer_places shape c.args.row places at are)
    (c.vertical_lines.ensures.value places f are held))
