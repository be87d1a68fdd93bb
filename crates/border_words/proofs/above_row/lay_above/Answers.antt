use Rattle.std.proofs.Common.{◌+◌, ◌*◌, sym, subst}
use Rattle.sample_words.specs.declared.sizes.FlightSizes.{FlightSizes}
use Rattle.spec_picture_trees.specs.Places.{unit_places}
use Rattle.spec_picture_trees.specs.Shapes.{picture_shape}
use Rattle.spec_slice_data.specs.Residual.{samples_of_place}
use Rattle.spec_flights.specs.Pictures.{folded_at}
use Rattle.line_words.specs.Places.{number_at}
use Rattle.line_words.proofs.Words.{knows_as_much}
use Rattle.sample_lines.specs.FactsOfFlights.{flight_in}
use Rattle.sample_lines.specs.FactsOfFlights.{IsOfFlight}
use Rattle.border_words.proofs.Laying.{line_kept, places_kept, same_above, shape_stays}
use Rattle.border_words.proofs.Passes.{stays_own, stays_seen}
use Rattle.border_words.proofs.above_row.lay_above.Goals as goal

pub lay_places_above-requires-clause-unit : goal.lay_places_above-requires-clause-unit
lay_places_above-requires-clause-unit c = record {
  flight = subst (λ (s : FlightSizes). IsOfFlight c.args.board.now.flight s) (sym c.requires.place) c.requires.flight;
  phase = c.requires.phase;
  picture = c.requires.picture;
  unit = c.line-line.ensures.unit;
  sound = c.requires.sound;
}

pub lay_lines_above-requires-clause-unit : goal.lay_lines_above-requires-clause-unit
lay_lines_above-requires-clause-unit c = record {
  flight = subst (λ (s : FlightSizes). IsOfFlight c.args.board.now.flight s) (sym c.requires.place) c.requires.flight;
  phase = c.requires.phase;
  picture = c.requires.picture;
  unit = c.line-line.ensures.unit;
  sound = c.requires.sound;
}

pub lay_lines_above-requires-clause-own : goal.lay_lines_above-requires-clause-own
lay_lines_above-requires-clause-own c =
    stays_own c.args.pass.now c.lay_places_above.new.pass c.lay_places_above.ensures.pass c.args.board.now
    c.requires.own

pub lay_lines_above-requires-clause-seen : goal.lay_lines_above-requires-clause-seen
lay_lines_above-requires-clause-seen c =
    stays_seen c.args.pass.now c.lay_places_above.new.pass c.lay_places_above.ensures.pass (number_at c.args.at.now)
    c.args.at.now.unit c.requires.seen

pub lay_lines_above-requires-clause-border : goal.lay_lines_above-requires-clause-border
lay_lines_above-requires-clause-border c =
    shape_stays c.args.border.now c.lay_places_above.new.border _ _ c.lay_places_above.ensures.same c.requires.border

pub returns-clause-laid : goal.returns-clause-laid
returns-clause-laid c = λ laid.
    let u = c.args.at.now in
    let p = c.args.plan.now in
    let q = picture_shape p.sps p.pps in
    let units = folded_at (flight_in c.args.board.now.flight) u.line.picture in
    let mid = c.lay_places_above.new.border in
    record {
      line = λ k component.
          c.lay_lines_above.ensures.lines k component
          (line_kept c.args.border.now mid q (u.line.row + 1) units k (samples_of_place k * (unit_places q * u.unit))
          c.lay_places_above.ensures.same (laid.line k component));
      places =
          places_kept mid c.lay_lines_above.new.border q (u.line.row + 1) units (unit_places q * (u.unit + 1))
          c.lay_lines_above.ensures.same (c.lay_places_above.ensures.places laid.places);
    }

pub returns-clause-same : goal.returns-clause-same
returns-clause-same c =
    same_above c.args.border.now c.lay_places_above.new.border c.lay_lines_above.new.border _ _
    c.lay_places_above.ensures.same c.lay_lines_above.ensures.same

pub returns-clause-pass : goal.returns-clause-pass
returns-clause-pass c =
    knows_as_much c.args.pass.now c.lay_places_above.new.pass c.lay_lines_above.new.pass
    c.lay_places_above.ensures.pass c.lay_lines_above.ensures.pass
