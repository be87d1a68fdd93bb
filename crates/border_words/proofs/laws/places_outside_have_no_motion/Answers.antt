use Rattle.std.proofs.Common.{◌/◌, ◌≤◌, arith, ap, ◌∙◌, subst, length}
use Rattle.sample_words.specs.declared.sizes.FlightSizes.{FlightSizes}
use Rattle.sample_words.specs.Sizes.{columns, height_of, width_of}
use Rattle.sample_lines.specs.FactsOfFlights.{flight_in}
use Rattle.border_words.specs.Units.{column_at, row_at}
use Rattle.border_words.proofs.Outside.{none_below, none_right}
use Rattle.border_words.proofs.Shapes.{across_is, down_is, past_columns}
use Rattle.border_words.proofs.laws.places_outside_have_no_motion.Goals as goal

pub returns-clause-right : goal.returns-clause-right
returns-clause-right c facts u p i j is small past =
    let f = flight_in facts in
    let sized = c.pictures_have_the_sizes_of_their_flight.ensures.picture facts u.sizes u.line.picture p is.flight
    is.picture in
    let sps = (is.flight.range.plans u.line.picture p is.picture).sps in
    let wide = ap (λ (s : FlightSizes). width_of s u.unit / 4) sized ∙ across_is p sps (length f.pictures) u.unit in
    none_right f u.line.picture p is.picture (column_at p u i) (row_at p u j) (omega (arith, wide, small, past))

pub returns-clause-below : goal.returns-clause-below
returns-clause-below c facts u p i j is small past =
    let f = flight_in facts in
    let sized = c.pictures_have_the_sizes_of_their_flight.ensures.picture facts u.sizes u.line.picture p is.flight
    is.picture in
    let sps = (is.flight.range.plans u.line.picture p is.picture).sps in
    let high = ap (λ (s : FlightSizes). height_of s u.line.row / 4) sized
    ∙ down_is p sps (length f.pictures) u.line.row in
    none_below f u.line.picture p is.picture (column_at p u i) (row_at p u j) (omega (arith, high, small, past))

pub returns-clause-beyond : goal.returns-clause-beyond
returns-clause-beyond c facts s k p x y is has past =
    let f = flight_in facts in
    let sized = c.pictures_have_the_sizes_of_their_flight.ensures.picture facts s k p is has in
    let sps = (is.range.plans k p has).sps in
    none_right f k p has _ y
    (past_columns p sps (length f.pictures) x (subst (λ (t : FlightSizes). columns t ≤ x) sized past))
