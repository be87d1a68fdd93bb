use Rattle.std.proofs.Common.{◌≡◌, ◌<◌, arith, refl}
use Rattle.sample_words.specs.Sizes.{columns}
use Rattle.progress_words.specs.Passes.{view}
use Rattle.line_words.proofs.Words.{knows_as_much, still_of}
use Rattle.filter_words.specs.Units.{places_at}
use Rattle.filter_words.proofs.Passing.{unit_of_row, unit_seen}
use Rattle.filter_words.proofs.Rows.{all_units, more_units, no_units, still_room}
use Rattle.filter_words.proofs.Words.{flight_sized}
use Rattle.filter_words.proofs.line_places.lay_line_places.Goals as goal

pub loop-x-init : goal.loop-x-init
loop-x-init c = record {
  own = c.requires.own;
  knows = (refl, refl);
  lays =
      no_units c.args.layout.now (flight_sized c.args.board.now.flight c.args.layout.now c.requires.flight) c.args.line
      c.args.first c.args.end (places_at c.args.board.now.flight c.args.line) c.args.around.now;
}

pub lay_unit_places-requires-clause-own : goal.lay_unit_places-requires-clause-own
lay_unit_places-requires-clause-own c = c.loop-x.invariant.own

pub lay_unit_places-requires-clause-unit : goal.lay_unit_places-requires-clause-unit
lay_unit_places-requires-clause-unit c =
    let less : c.loop-x.x < columns c.args.layout.now =
    omega (arith, c.loop-x-test.true, c.columns-columns.ensures.value) in
    unit_of_row c.args.board.now.flight c.args.layout.now c.args.plan.now (view c.args.pass.now) c.args.line c.loop-x.x
    c.requires.flight c.requires.picture c.requires.row c.requires.seen less

pub lay_unit_places-requires-clause-seen : goal.lay_unit_places-requires-clause-seen
lay_unit_places-requires-clause-seen c =
    let less : c.loop-x.x < columns c.args.layout.now =
    omega (arith, c.loop-x-test.true, c.columns-columns.ensures.value) in
    unit_seen c.args.board.now.flight c.args.layout.now (view c.args.pass.now) (view c.loop-x.pass) c.args.line
    c.loop-x.x c.loop-x.invariant.knows.1 c.requires.seen less

pub lay_unit_places-requires-clause-room : goal.lay_unit_places-requires-clause-room
lay_unit_places-requires-clause-room c =
    still_room _ _ c.args.around.now c.loop-x.around c.args.plan.now c.args.line.row c.loop-x.invariant.lays
    c.requires.room

pub loop-x-preserved : goal.loop-x-preserved
loop-x-preserved c =
    let i = c.loop-x.invariant in
    let less : c.loop-x.x < columns c.args.layout.now =
    omega (arith, c.loop-x-test.true, c.columns-columns.ensures.value) in
    record {
      own =
          still_of c.args.board.now c.loop-x.pass c.lay_unit_places.new.pass (view c.loop-x.pass) i.own
          c.lay_unit_places.ensures.same refl;
      knows =
          knows_as_much c.args.pass.now c.loop-x.pass c.lay_unit_places.new.pass i.knows
          c.lay_unit_places.ensures.same;
      lays =
          more_units c.args.layout.now
          (flight_sized c.args.board.now.flight c.args.layout.now c.requires.flight) c.args.line c.args.first c.args.end
          c.loop-x.x (places_at c.args.board.now.flight c.args.line) c.args.around.now c.loop-x.around
          c.lay_unit_places.new.around less i.lays c.lay_unit_places.ensures.places;
    }

pub returns-clause-places : goal.returns-clause-places
returns-clause-places c =
    let all : c.loop-x.x ≡ columns c.args.layout.now =
    omega (arith, c.loop-x-test.false, c.loop-x.auto.x-end, c.columns-columns.ensures.value) in
    all_units c.args.layout.now (flight_sized c.args.board.now.flight c.args.layout.now c.requires.flight) c.args.line
    c.args.first c.args.end c.loop-x.x (places_at c.args.board.now.flight c.args.line) c.args.around.now
    c.loop-x.around all c.loop-x.invariant.lays
