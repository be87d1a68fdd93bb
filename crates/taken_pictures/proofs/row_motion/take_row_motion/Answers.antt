use Rattle.std.proofs.Common.{◌≡◌, ◌<◌, ap, sym, subst, ◌∙◌, arith}
use Rattle.sample_words.specs.Sizes.{columns}
use Rattle.sample_words.specs.Words.{line_number}
use Rattle.picture_buffer.specs.Motion.{motions_of}
use Rattle.spec_flights.specs.Pictures.{folded_at}
use Rattle.progress_words.specs.Passes.{view}
use Rattle.progress_words.specs.Views.{seen_of}
use Rattle.line_words.specs.Places.{UnitAt, number_at}
use Rattle.line_words.proofs.Words.{knows_as_much}
use Rattle.sample_lines.specs.FactsOfFlights.{flight_in}
use Rattle.taken_pictures.specs.Places.{IsTreeUnit}
use Rattle.taken_pictures.proofs.Passes.{stays_own, stays_seen}
use Rattle.taken_pictures.proofs.Places.{sizes_of}
use Rattle.taken_pictures.proofs.Seen.{unit_sound}
use Rattle.taken_pictures.proofs.Taken.{unit_there, units_all, units_more, with_unit}
use Rattle.taken_pictures.proofs.row_motion.take_row_motion.Goals as goal

pub new-at-requires-clause-unit : goal.new-at-requires-clause-unit
new-at-requires-clause-unit c =
    let test = c.loop-column-test.true in
    let count = c.columns-columns.ensures.value in
    unit_there c.args.layout.now c.args.line c.loop-column.column c.requires.phase (omega (arith, test, count))

pub take_unit-requires-clause-own : goal.take_unit-requires-clause-own
take_unit-requires-clause-own c =
    stays_own c.args.pass.now c.loop-column.pass c.loop-column.invariant.knows c.args.board.now c.requires.own

pub take_unit-requires-clause-unit : goal.take_unit-requires-clause-unit
take_unit-requires-clause-unit c =
    let facts = c.args.board.now.flight in
    let s = c.args.layout.now in
    let l = c.args.line in
    let x = c.loop-column.column in
    let must = c.requires in
    let test = c.loop-column-test.true in
    let count = c.columns-columns.ensures.value in
    let seen = must.seen in
    let there = unit_there s l x must.phase (omega (arith, test, count)) in
    subst (λ (u : UnitAt). IsTreeUnit facts u c.args.plan.now) (sym c.new-at.ensures)
    (record {
      flight = must.flight;
      phase = must.phase;
      picture = must.picture;
      unit = record { line = must.line; unit = there };
      sound = unit_sound facts s must.flight (view c.args.pass.now) l x must.line must.known
          (omega (arith, test, count, seen));
    })

pub take_unit-requires-clause-seen : goal.take_unit-requires-clause-seen
take_unit-requires-clause-seen c =
    let test = c.loop-column-test.true in
    let count = c.columns-columns.ensures.value in
    let seen = c.requires.seen in
    subst (λ (u : UnitAt). u.unit < seen_of (view c.loop-column.pass) (number_at u)) (sym c.new-at.ensures)
    (stays_seen c.args.pass.now c.loop-column.pass c.loop-column.invariant.knows
    (line_number c.args.layout.now c.args.line) c.loop-column.column (omega (arith, test, count, seen)))

pub loop-column-preserved : goal.loop-column-preserved
loop-column-preserved c =
    let i = c.loop-column.invariant in
    let s = c.args.layout.now in
    let l = c.args.line in
    let facts = c.args.board.now.flight in
    let m = (folded_at (flight_in facts) l.picture).motions in
    record {
      knows = knows_as_much c.args.pass.now c.loop-column.pass c.take_unit.new.pass i.knows c.take_unit.ensures.same;
      sides = c.take_unit.ensures.sides;
      places = λ x y across down.
          units_more s l.row c.loop-column.column x y (m x y) (motions_of c.args.field.now x y)
          (motions_of c.loop-column.field x y) (motions_of c.take_unit.new.field x y) (i.places x y across down)
          (c.take_unit.ensures.places x y across down
          ∙ ap (λ (u : UnitAt). with_unit facts s u (motions_of c.loop-column.field) x y) c.new-at.ensures);
    }

pub returns-clause-places : goal.returns-clause-places
returns-clause-places c = λ x y across down.
    let s = c.args.layout.now in
    let l = c.args.line in
    let count = c.columns-columns.ensures.value in
    let all : c.loop-column.column ≡ columns s =
    omega (arith, c.loop-column-test.false, c.loop-column.auto.column-end, count) in
    units_all s l.row x y c.loop-column.column
    ((folded_at (flight_in c.args.board.now.flight) l.picture).motions x y)
    (motions_of c.args.field.now x y) (motions_of c.loop-column.field x y)
    (sizes_of c.args.board.now.flight s c.requires.flight) all across
    (c.loop-column.invariant.places x y across down)
