use Rattle.std.proofs.Common.{◌≡◌, ◌+◌, ◌-◌, ◌<◌, ◌≤◌, min, arith, refl, subst}
use Rattle.sample_words.specs.Sizes.{columns, rows}
use Rattle.progress_words.specs.Passes.{view}
use Rattle.line_words.proofs.Words.{knows_as_much, still_of}
use Rattle.filter_words.specs.Regions.{LaysUnits, is_inside}
use Rattle.filter_words.specs.Units.{HasRoom, filters_at}
use Rattle.filter_words.proofs.Passing.{row_beside}
use Rattle.filter_words.proofs.Rows.{more_component_rows, no_component_rows, still_room_units}
use Rattle.filter_words.proofs.row_offsets.lay_three_rows.Goals as goal

pub loop-row-init : goal.loop-row-init
loop-row-init c = record {
  own = c.requires.own;
  knows = (refl, refl);
  lays =
      no_component_rows (columns c.args.layout.now) c.saturating_sub-first.result
      (filters_at c.args.board.now.flight c.args.line).units c.args.around.now;
}

pub lay_line_offsets-requires-clause-own : goal.lay_line_offsets-requires-clause-own
lay_line_offsets-requires-clause-own c = c.loop-row.invariant.own

pub lay_line_offsets-requires-clause-row : goal.lay_line_offsets-requires-clause-row
lay_line_offsets-requires-clause-row c =
    omega (arith, c.loop-row-test.true, c.min-end.ensures, c.rows.ensures.value)

pub lay_line_offsets-requires-clause-seen : goal.lay_line_offsets-requires-clause-seen
lay_line_offsets-requires-clause-seen c =
    let there : c.loop-row.row < rows c.args.layout.now =
    omega (arith, c.loop-row-test.true, c.min-end.ensures, c.rows.ensures.value) in
    row_beside c.args.board.now.flight c.args.layout.now (view c.args.pass.now) (view c.loop-row.pass) c.args.line 1
    c.loop-row.row c.loop-row.invariant.knows.1 c.requires.seen there
    (omega (arith, c.loop-row.auto.row, c.saturating_sub-first.ensures))
    (omega (arith, c.loop-row-test.true, c.min-end.ensures, c.saturating_add.ensures))

pub lay_line_offsets-requires-clause-room : goal.lay_line_offsets-requires-clause-room
lay_line_offsets-requires-clause-room c =
    let room : HasRoom c.args.around.now c.args.plan.now c.loop-row.row = record {
      format = c.requires.format;
      first = omega (arith, c.requires.above, c.loop-row.auto.row, c.saturating_sub-first.ensures);
      last =
          omega (arith, c.requires.above, c.loop-row-test.true, c.min-end.ensures, c.saturating_add.ensures);
    } in
    still_room_units _ _ c.args.around.now c.loop-row.around c.args.plan.now c.loop-row.row
    c.loop-row.invariant.lays room

pub loop-row-preserved : goal.loop-row-preserved
loop-row-preserved c =
    let i = c.loop-row.invariant in
    record {
      own =
          still_of c.args.board.now c.loop-row.pass c.lay_line_offsets.new.pass (view c.loop-row.pass) i.own
          c.lay_line_offsets.ensures.same refl;
      knows =
          knows_as_much c.args.pass.now c.loop-row.pass c.lay_line_offsets.new.pass i.knows
          c.lay_line_offsets.ensures.same;
      lays =
          more_component_rows (columns c.args.layout.now) c.saturating_sub-first.result c.loop-row.row
          (filters_at c.args.board.now.flight c.args.line).units c.args.around.now c.loop-row.around
          c.lay_line_offsets.new.around c.loop-row.auto.row i.lays c.lay_line_offsets.ensures.units;
    }

pub returns-clause-units : goal.returns-clause-units
returns-clause-units c =
    let s = c.args.layout.now in
    let row = c.args.line.row in
    let some : c.saturating_sub-first.result ≤ c.min-end.result =
    omega (
      arith,
      c.saturating_sub-first.ensures,
      c.min-end.ensures,
      c.saturating_add.ensures,
      c.rows.ensures.value,
      c.requires.row,
    ) in
    let end : c.loop-row.row ≡ min (row + 2) (rows s) =
    omega (
      arith,
      c.loop-row-test.false,
      c.loop-row.auto.row-end some,
      c.min-end.ensures,
      c.saturating_add.ensures,
      c.rows.ensures.value,
    ) in
    let first : c.saturating_sub-first.result ≡ row - 1 = omega (arith, c.saturating_sub-first.ensures) in
    subst
    (λ e. LaysUnits (is_inside 0 (columns s) (row - 1) e) (filters_at c.args.board.now.flight c.args.line).units
    c.args.around.now c.loop-row.around)
    end
    (subst
    (λ b. LaysUnits (is_inside 0 (columns s) b c.loop-row.row)
    (filters_at c.args.board.now.flight c.args.line).units c.args.around.now c.loop-row.around)
    first c.loop-row.invariant.lays)
