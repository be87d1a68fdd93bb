use Rattle.std.proofs.Common.{◌≡◌, ◌+◌, ◌<◌, arith, refl, subst}
use Rattle.sample_words.specs.Sizes.{columns}
use Rattle.progress_words.specs.Passes.{view}
use Rattle.line_words.proofs.Words.{knows_as_much, still_of}
use Rattle.filter_words.specs.Regions.{LaysUnits, is_inside}
use Rattle.filter_words.specs.Units.{filters_at}
use Rattle.filter_words.proofs.Passing.{unit_of_row, unit_seen}
use Rattle.filter_words.proofs.Rows.{more_components, no_components, still_room_units}
use Rattle.filter_words.proofs.Words.{flight_sized}
use Rattle.filter_words.proofs.line_offsets.lay_line_offsets.Goals as goal

pub loop-x-init : goal.loop-x-init
loop-x-init c = record {
  own = c.requires.own;
  knows = (refl, refl);
  lays =
      no_components c.args.layout.now (flight_sized c.args.board.now.flight c.args.layout.now c.requires.flight)
      c.args.line (filters_at c.args.board.now.flight c.args.line).units c.args.around.now;
}

pub lay_unit_offsets-requires-clause-own : goal.lay_unit_offsets-requires-clause-own
lay_unit_offsets-requires-clause-own c = c.loop-x.invariant.own

pub lay_unit_offsets-requires-clause-unit : goal.lay_unit_offsets-requires-clause-unit
lay_unit_offsets-requires-clause-unit c =
    let less : c.loop-x.x < columns c.args.layout.now =
    omega (arith, c.loop-x-test.true, c.columns-columns.ensures.value) in
    unit_of_row c.args.board.now.flight c.args.layout.now c.args.plan.now (view c.args.pass.now) c.args.line c.loop-x.x
    c.requires.flight c.requires.picture c.requires.row c.requires.seen less

pub lay_unit_offsets-requires-clause-seen : goal.lay_unit_offsets-requires-clause-seen
lay_unit_offsets-requires-clause-seen c =
    let less : c.loop-x.x < columns c.args.layout.now =
    omega (arith, c.loop-x-test.true, c.columns-columns.ensures.value) in
    unit_seen c.args.board.now.flight c.args.layout.now (view c.args.pass.now) (view c.loop-x.pass) c.args.line
    c.loop-x.x c.loop-x.invariant.knows.1 c.requires.seen less

pub lay_unit_offsets-requires-clause-room : goal.lay_unit_offsets-requires-clause-room
lay_unit_offsets-requires-clause-room c =
    still_room_units _ _ c.args.around.now c.loop-x.around c.args.plan.now c.args.line.row c.loop-x.invariant.lays
    c.requires.room

pub loop-x-preserved : goal.loop-x-preserved
loop-x-preserved c =
    let i = c.loop-x.invariant in
    record {
      own =
          still_of c.args.board.now c.loop-x.pass c.lay_unit_offsets.new.pass (view c.loop-x.pass) i.own
          c.lay_unit_offsets.ensures.same refl;
      knows =
          knows_as_much c.args.pass.now c.loop-x.pass c.lay_unit_offsets.new.pass i.knows
          c.lay_unit_offsets.ensures.same;
      lays =
          more_components c.args.layout.now
          (flight_sized c.args.board.now.flight c.args.layout.now c.requires.flight) c.args.line c.loop-x.x
          (filters_at c.args.board.now.flight c.args.line).units c.args.around.now c.loop-x.around
          c.lay_unit_offsets.new.around i.lays c.lay_unit_offsets.ensures.units;
    }

pub returns-clause-units : goal.returns-clause-units
returns-clause-units c =
    let all : c.loop-x.x ≡ columns c.args.layout.now =
    omega (arith, c.loop-x-test.false, c.loop-x.auto.x-end, c.columns-columns.ensures.value) in
    subst
    (λ x. LaysUnits (is_inside 0 x c.args.line.row (c.args.line.row + 1))
    (filters_at c.args.board.now.flight c.args.line).units c.args.around.now c.loop-x.around)
    all c.loop-x.invariant.lays
