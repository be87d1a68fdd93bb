use Rattle.std.proofs.Common.{◌≡◌, ◌+◌, ◌<◌, arith, ap, ◌∙◌, get_or, length}
use Rattle.std.proofs.lemmas.List.{get_or_default, length_push}
use Rattle.std.proofs.lemmas.List.Sums.{sum_by_more}
use Rattle.flight_plan.specs.Flight.{PictureRows, no_picture, picture_units}
use Rattle.board_core.specs.Places.{picture_lines}
use Rattle.board_core.proofs.Tables.{table_next}
use Rattle.board_core.proofs.flight_layout.FlightLayout.new.Goals as goal

pub loop-picture-preserved : goal.loop-picture-preserved
loop-picture-preserved c =
    let items = c.pictures-picture-items.result.now in
    let n = c.loop-picture.picture-index in
    let before = c.loop-picture.invariant in
    let here : n < length items = c.loop-picture-test.true in
    let at : c.picture-item.result ≡ get_or items n no_picture =
    c.picture-item.is ∙ get_or_default items n c.picture-item.result no_picture here in
    let rows = ap (λ (p : PictureRows). p.rows) at in
    let lines = sum_by_more picture_lines items n no_picture here in
    let units = sum_by_more picture_units items n no_picture here in
    record {
      line_count = ap length c.in_ok-push.ensures.items ∙ length_push _ _ ∙ ap (λ m. m + 1) before.line_count;
      unit_count = ap length c.in_ok-push-2.ensures.items ∙ length_push _ _ ∙ ap (λ m. m + 1) before.unit_count;
      lines = omega (arith, before.lines, lines, rows, c.rows.ensures.value, c.from.ensures);
      units = omega (arith, before.units, units, ap picture_units at, c.units-units.ensures.value);
      few = omega (arith, before.few, c.rows.ensures.value, c.rows.ensures.in_range.rows, c.from.ensures);
      line_table = table_next picture_lines items _ _ n _ before.line_count before.lines c.in_ok-push.ensures.items
          before.line_table;
      unit_table = table_next picture_units items _ _ n _ before.unit_count before.units c.in_ok-push-2.ensures.items
          before.unit_table;
    }
