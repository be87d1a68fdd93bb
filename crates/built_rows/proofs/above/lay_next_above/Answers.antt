use Rattle.std.proofs.Common.{◌≡◌, ◌+◌, ◌-◌, ◌*◌, ◌<◌, ◌≤◌, ap, sym, subst, ◌∙◌, arith}
use Rattle.hv_base.specs.declared.line.Line.{Line}
use Rattle.hv_base.specs.declared.line.Phase.TheVariants.{B}
use Rattle.header_types.specs.SequenceParameterSets.{width_in_ctbs}
use Rattle.board_core.specs.Places.{line_of}
use Rattle.sample_words.specs.Words.{line_number}
use Rattle.spec_picture_trees.specs.Places.{unit_places}
use Rattle.border_words.specs.RowBorders.{IsLaid}
use Rattle.progress_words.specs.declared.pass.Pass.{Pass}
use Rattle.progress_words.specs.declared.view.View.{View}
use Rattle.progress_words.specs.Passes.{view}
use Rattle.progress_words.specs.Views.{seen_of}
use Rattle.border_words.specs.FlightFacts.{FlightFacts}
use Rattle.built_rows.specs.declared.row_builder.RowBuilder.{RowBuilder}
use Rattle.built_rows.specs.Stages.{shape_of, units_in}
use Rattle.built_rows.proofs.Inside.{column_inside, columns_are}
use Rattle.built_rows.proofs.Laid.{above_inside, above_seen, above_sound, laid_before, laid_first, laid_last}
use Rattle.built_rows.proofs.Laid.{laid_next}
use Rattle.built_rows.proofs.above.lay_next_above.Goals as goal
use Rattle.built_rows.proofs.above.lay_next_above.Goals.{then-x-eq0, else-x-eq0}

pub lay_unit_above-requires-clause-below : goal.lay_unit_above-requires-clause-below
lay_unit_above-requires-clause-below c =
    above_inside c.args.board.now.flight c.args.picture.now c.args.at.now (view c.args.pass.now) c.args.builder.now
    c.requires.stands c.line-row.result.row c.unit-x.result (ap (λ (l : Line). l.row) c.line-row.ensures.value)
    c.unit-x.ensures.value c.if-row-eq0.false c.requires.picture c.line-row.ensures.unit c.requires.seen

pub lay_unit_above-requires-clause-seen : goal.lay_unit_above-requires-clause-seen
lay_unit_above-requires-clause-seen c =
    let inside =
    column_inside c.args.board.now.flight c.args.picture.now c.requires.picture c.args.at.now
    c.requires.stands.working.unit c.line-row.ensures.unit in
    let here = c.unit-x.ensures.value in
    above_seen c.args.board.now.flight c.args.picture.now c.args.at.now (view c.args.pass.now) c.args.builder.now
    c.requires.stands c.line-row.result.row c.unit-x.result (ap (λ (l : Line). l.row) c.line-row.ensures.value)
    c.unit-x.ensures.value c.if-row-eq0.false c.requires.picture c.line-row.ensures.unit c.requires.seen
    c.unit-x.result (omega arith) (omega arith) (omega (arith, inside, here))

pub lay_unit_above-requires-clause-sound : goal.lay_unit_above-requires-clause-sound
lay_unit_above-requires-clause-sound c =
    let inside =
    column_inside c.args.board.now.flight c.args.picture.now c.requires.picture c.args.at.now
    c.requires.stands.working.unit c.line-row.ensures.unit in
    let here = c.unit-x.ensures.value in
    above_sound c.args.board.now.flight c.args.picture.now c.args.at.now (view c.args.pass.now) c.args.builder.now
    c.requires.stands c.line-row.result.row c.unit-x.result (ap (λ (l : Line). l.row) c.line-row.ensures.value)
    c.unit-x.ensures.value c.if-row-eq0.false c.requires.picture c.line-row.ensures.unit c.requires.seen
    c.unit-x.result (omega arith) (omega arith) (omega (arith, inside, here))

pub lay_unit_above-requires-then-from-columns-clause-below :
    goal.lay_unit_above-requires-then-from-columns-clause-below
lay_unit_above-requires-then-from-columns-clause-below c =
    above_inside c.args.board.now.flight c.args.picture.now c.args.at.now (view c.args.pass.now) c.args.builder.now
    c.requires.stands c.line-row.result.row c.unit-x.result (ap (λ (l : Line). l.row) c.line-row.ensures.value)
    c.unit-x.ensures.value c.if-row-eq0.false c.requires.picture c.line-row.ensures.unit c.requires.seen

pub lay_unit_above-requires-then-from-columns-clause-seen :
    goal.lay_unit_above-requires-then-from-columns-clause-seen
lay_unit_above-requires-then-from-columns-clause-seen c =
    let wide = columns_are c.args.board.now.flight c.args.picture.now c.requires.picture in
    let test = c.if-from-columns.true in
    let from = c.from.ensures in
    let many = c.columns.ensures.value in
    let same : view c.if-x-eq0.pass ≡ view c.args.pass.now =
    elim c.if-x-eq0.branch [
      | then-x-eq0 w ↦ ap (λ (q : Pass FlightFacts). view q) w.pass-is ∙ w.lay_unit_above.ensures.pass.1
      | else-x-eq0 w ↦ ap (λ (q : Pass FlightFacts). view q) w.pass-is
    ] in
    subst
    (λ (u : View FlightFacts). c.unit-x.result + 1
    < seen_of u (line_number c.args.picture.now.layout.now
    (line_of B c.args.picture.now.place (c.line-row.result.row - 1))))
    (sym same)
    (above_seen c.args.board.now.flight c.args.picture.now c.args.at.now (view c.args.pass.now) c.args.builder.now
    c.requires.stands c.line-row.result.row c.unit-x.result (ap (λ (l : Line). l.row) c.line-row.ensures.value)
    c.unit-x.ensures.value c.if-row-eq0.false c.requires.picture c.line-row.ensures.unit c.requires.seen
    (c.unit-x.result + 1) (omega arith) (omega arith) (omega (arith, test, from, many, wide)))

pub lay_unit_above-requires-then-from-columns-clause-sound :
    goal.lay_unit_above-requires-then-from-columns-clause-sound
lay_unit_above-requires-then-from-columns-clause-sound c =
    let wide = columns_are c.args.board.now.flight c.args.picture.now c.requires.picture in
    let test = c.if-from-columns.true in
    let from = c.from.ensures in
    let many = c.columns.ensures.value in
    above_sound c.args.board.now.flight c.args.picture.now c.args.at.now (view c.args.pass.now) c.args.builder.now
    c.requires.stands c.line-row.result.row c.unit-x.result (ap (λ (l : Line). l.row) c.line-row.ensures.value)
    c.unit-x.ensures.value c.if-row-eq0.false c.requires.picture c.line-row.ensures.unit c.requires.seen
    (c.unit-x.result + 1) (omega arith) (omega arith) (omega (arith, test, from, many, wide))

pub returns-then-from-columns-clause-laid : goal.returns-then-from-columns-clause-laid
returns-then-from-columns-clause-laid c =
    let facts = c.args.board.now.flight in
    let picture = c.args.picture.now in
    let at = c.args.at.now in
    let x = c.unit-x.result in
    let row_is = ap (λ (l : Line). l.row) c.line-row.ensures.value in
    let wide = columns_are facts picture c.requires.picture in
    let test = c.if-from-columns.true in
    let from = c.from.ensures in
    let many = c.columns.ensures.value in
    let inside : x + 1 < width_in_ctbs picture.plan.now.sps = omega (arith, test, from, many, wide) in
    let before : IsLaid (shape_of picture) at.line.row c.if-x-eq0.builder.border.above (units_in facts picture)
    (unit_places (shape_of picture) * (x + 1)) =
    elim c.if-x-eq0.branch [
      | then-x-eq0 w ↦
          subst
          (λ (t : RowBuilder). IsLaid (shape_of picture) at.line.row t.border.above (units_in facts picture)
          (unit_places (shape_of picture) * (x + 1)))
          (sym w.builder-is)
          (laid_first facts picture at (view c.args.pass.now) c.args.builder.now c.requires.stands
          c.line-row.result.row x row_is c.unit-x.ensures.value c.if-row-eq0.false w.lay_unit_above.new.builder
          w.if-x-eq0.true w.lay_unit_above.ensures.laid)
      | else-x-eq0 w ↦
          subst
          (λ (t : RowBuilder). IsLaid (shape_of picture) at.line.row t.border.above (units_in facts picture)
          (unit_places (shape_of picture) * (x + 1)))
          (sym w.builder-is)
          (laid_before facts picture at (view c.args.pass.now) c.args.builder.now c.requires.stands
          c.line-row.result.row x row_is c.unit-x.ensures.value c.if-row-eq0.false w.if-x-eq0.false)
    ] in
    laid_next facts picture at (view c.args.pass.now) c.args.builder.now c.requires.stands c.line-row.result.row x
    row_is c.unit-x.ensures.value c.if-row-eq0.false c.if-x-eq0.builder c.lay_unit_above-then-from-columns.new.builder
    inside c.lay_unit_above-then-from-columns.ensures.laid before

pub returns-else-from-columns-clause-laid : goal.returns-else-from-columns-clause-laid
returns-else-from-columns-clause-laid c =
    let facts = c.args.board.now.flight in
    let picture = c.args.picture.now in
    let at = c.args.at.now in
    let x = c.unit-x.result in
    let row_is = ap (λ (l : Line). l.row) c.line-row.ensures.value in
    let wide = columns_are facts picture c.requires.picture in
    let test = c.if-from-columns.false in
    let from = c.from.ensures in
    let many = c.columns.ensures.value in
    let past : width_in_ctbs picture.plan.now.sps ≤ x + 1 = omega (arith, test, from, many, wide) in
    let inside =
    column_inside facts picture c.requires.picture at c.requires.stands.working.unit c.line-row.ensures.unit in
    let before : IsLaid (shape_of picture) at.line.row c.if-x-eq0.builder.border.above (units_in facts picture)
    (unit_places (shape_of picture) * (x + 1)) =
    elim c.if-x-eq0.branch [
      | then-x-eq0 w ↦
          subst
          (λ (t : RowBuilder). IsLaid (shape_of picture) at.line.row t.border.above (units_in facts picture)
          (unit_places (shape_of picture) * (x + 1)))
          (sym w.builder-is)
          (laid_first facts picture at (view c.args.pass.now) c.args.builder.now c.requires.stands
          c.line-row.result.row x row_is c.unit-x.ensures.value c.if-row-eq0.false w.lay_unit_above.new.builder
          w.if-x-eq0.true w.lay_unit_above.ensures.laid)
      | else-x-eq0 w ↦
          subst
          (λ (t : RowBuilder). IsLaid (shape_of picture) at.line.row t.border.above (units_in facts picture)
          (unit_places (shape_of picture) * (x + 1)))
          (sym w.builder-is)
          (laid_before facts picture at (view c.args.pass.now) c.args.builder.now c.requires.stands
          c.line-row.result.row x row_is c.unit-x.ensures.value c.if-row-eq0.false w.if-x-eq0.false)
    ] in
    laid_last facts picture at (view c.args.pass.now) c.args.builder.now c.requires.stands c.line-row.result.row x
    row_is c.unit-x.ensures.value c.if-row-eq0.false c.if-x-eq0.builder past inside before

pub returns-else-from-columns-clause-next : goal.returns-else-from-columns-clause-next
returns-else-from-columns-clause-next c inside below =
    let wide = columns_are c.args.board.now.flight c.args.picture.now c.requires.picture in
    let test = c.if-from-columns.false in
    let from = c.from.ensures in
    let many = c.columns.ensures.value in
    let here = c.unit-x.ensures.value in
    absurd (omega (arith, test, from, many, wide, here, inside))
