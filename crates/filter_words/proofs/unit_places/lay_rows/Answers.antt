use Rattle.std.proofs.Common.{◌≡◌, ◌<◌, arith, refl, subst, sym}
use Rattle.progress_words.specs.declared.view.View.{View}
use Rattle.progress_words.specs.Passes.{view}
use Rattle.progress_words.specs.Views.{seen_of}
use Rattle.line_words.specs.Places.{number_at}
use Rattle.line_words.proofs.Words.{knows_as_much, still_of}
use Rattle.flight_facts.specs.declared.flight_facts.FlightFacts.{FlightFacts}
use Rattle.filter_words.specs.Regions.{LaysPlaces}
use Rattle.filter_words.specs.Units.{is_in_unit, places_at}
use Rattle.filter_words.proofs.Rows.{more_unit_rows, no_unit_rows, still_room}
use Rattle.filter_words.proofs.unit_places.lay_rows.Goals as goal

pub loop-y-init : goal.loop-y-init
loop-y-init c = record {
  own = c.requires.own;
  knows = (refl, refl);
  lays =
      no_unit_rows c.args.unit.now c.args.first (places_at c.args.board.now.flight c.args.unit.now.line)
      c.args.around.now;
}

pub lay_row-requires-clause-own : goal.lay_row-requires-clause-own
lay_row-requires-clause-own c = c.loop-y.invariant.own

pub lay_row-requires-clause-seen : goal.lay_row-requires-clause-seen
lay_row-requires-clause-seen c =
    subst (λ (v : View FlightFacts). c.args.unit.now.unit < seen_of v (number_at c.args.unit.now))
    (sym c.loop-y.invariant.knows.1) c.requires.seen

pub lay_row-requires-clause-room : goal.lay_row-requires-clause-room
lay_row-requires-clause-room c =
    still_room _ _ c.args.around.now c.loop-y.around c.args.plan.now c.args.unit.now.line.row
    c.loop-y.invariant.lays c.requires.room

pub loop-y-preserved : goal.loop-y-preserved
loop-y-preserved c =
    let i = c.loop-y.invariant in
    record {
      own =
          still_of c.args.board.now c.loop-y.pass c.lay_row.new.pass (view c.loop-y.pass) i.own c.lay_row.ensures.same
          refl;
      knows = knows_as_much c.args.pass.now c.loop-y.pass c.lay_row.new.pass i.knows c.lay_row.ensures.same;
      lays =
          more_unit_rows c.args.unit.now c.args.first c.loop-y.y
          (places_at c.args.board.now.flight c.args.unit.now.line) c.args.around.now c.loop-y.around
          c.lay_row.new.around c.loop-y.auto.y i.lays c.lay_row.ensures.places;
    }

pub returns-clause-places : goal.returns-clause-places
returns-clause-places c =
    let last : c.loop-y.y ≡ c.args.end =
    omega (arith, c.loop-y-test.false, c.loop-y.auto.y-end c.requires.rows) in
    subst
    (λ e. LaysPlaces (is_in_unit c.args.unit.now c.args.first e)
    (places_at c.args.board.now.flight c.args.unit.now.line) c.args.around.now c.loop-y.around)
    last c.loop-y.invariant.lays
