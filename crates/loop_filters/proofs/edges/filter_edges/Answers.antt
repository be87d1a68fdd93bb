use Rattle.loop_filters.proofs.Passes.{horizontal_stage, is_row, vertical_stage}
use Rattle.loop_filters.proofs.edges.filter_edges.Goals as goal

pub vertical_row-requires-clause-row : goal.vertical_row-requires-clause-row
vertical_row-requires-clause-row g c =
    rw c.row_of-row.ensures
    (is_row c.args.component.now c.args.row c.requires.component c.requires.grid c.requires.row)

pub horizontal_row-requires-clause-row : goal.horizontal_row-requires-clause-row
horizontal_row-requires-clause-row g c =
    rw c.row_of-row.ensures
    (is_row c.args.component.now c.args.row c.requires.component c.requires.grid c.requires.row)

pub returns-clause-value : goal.returns-clause-value
returns-clause-value g c = λ done before behind early stage.
    horizontal_stage c.args.component.now c.args.row done (g.V.PlaceView.place_at c.args.view.now) before behind
    c.vertical_row.new.samples c.horizontal_row.new.samples c.requires.component c.requires.grid c.requires.row early
    (rw c.row_of-row.ensures at c.horizontal_row.ensures.value)
    (vertical_stage c.args.component.now c.args.row done (g.V.PlaceView.place_at c.args.view.now) before behind
    c.args.samples.now c.vertical_row.new.samples c.requires.component c.requires.grid c.requires.row early
    (rw c.row_of-row.ensures at c.vertical_row.ensures.value) stage)
