use Rattle.std.proofs.Common.{◌≡◌, ℕ, ◌+◌, ◌*◌, ◌/◌, ◌<◌, ◌&&◌, cond, nat_le, nat_lt, ap, sym, subst, ◌∙◌, arith}
use Rattle.sample_words.specs.declared.sizes.FlightSizes.{FlightSizes}
use Rattle.sample_words.specs.Sizes.{columns, height_of, width_of}
use Rattle.spec_slice_data.specs.Segment.{PictureShape}
use Rattle.picture_buffer.specs.Motion.{motions_of}
use Rattle.spec_flights.specs.Pictures.{folded_at}
use Rattle.line_words.specs.Places.{number_at}
use Rattle.line_words.proofs.Words.{knows_as_much}
use Rattle.sample_lines.specs.FactsOfFlights.{flight_in}
use Rattle.sample_lines.specs.FactsOfFlights.{IsOfFlight}
use Rattle.taken_pictures.specs.Places.{address_at}
use Rattle.taken_pictures.specs.Rows.{side_places}
use Rattle.taken_pictures.proofs.Passes.{stays_own, stays_seen}
use Rattle.taken_pictures.proofs.Places.{picture_width, row_columns, row_line, row_small, sizes_of, unit_more}
use Rattle.taken_pictures.proofs.Shapes.{shape_width}
use Rattle.taken_pictures.proofs.Sides.{column_among, row_among}
use Rattle.taken_pictures.proofs.Taken.{unit_whole}
use Rattle.taken_pictures.proofs.row_motion.take_unit.Goals as goal

pub unit_of-unit-requires-clause-phase : goal.unit_of-unit-requires-clause-phase
unit_of-unit-requires-clause-phase c = c.requires.unit.phase

pub unit_of-unit-requires-clause-width : goal.unit_of-unit-requires-clause-width
unit_of-unit-requires-clause-width c =
    ap (λ (shape : PictureShape). shape.width) c.new-picture.ensures.value
    ∙ (picture_width c.args.board.now.flight c.args.at.now c.args.plan.now c.requires.unit
    ∙ ap columns c.requires.place)

pub new-words-requires-clause-phase : goal.new-words-requires-clause-phase
new-words-requires-clause-phase c = c.requires.unit.phase

pub read_row-row-requires-clause-own : goal.read_row-row-requires-clause-own
read_row-row-requires-clause-own c =
    stays_own c.args.pass.now c.loop-y.pass c.loop-y.invariant.knows c.args.board.now c.requires.own

pub read_row-row-requires-clause-flight : goal.read_row-row-requires-clause-flight
read_row-row-requires-clause-flight c = c.requires.unit.flight

pub read_row-row-requires-clause-phase : goal.read_row-row-requires-clause-phase
read_row-row-requires-clause-phase c = c.requires.unit.phase

pub read_row-row-requires-clause-seen : goal.read_row-row-requires-clause-seen
read_row-row-requires-clause-seen c =
    stays_seen c.args.pass.now c.loop-y.pass c.loop-y.invariant.knows (number_at c.args.at.now) c.args.at.now.unit
    c.requires.seen

pub lay_row-requires-clause-few : goal.lay_row-requires-clause-few
lay_row-requires-clause-few c =
    let count = c.read_row-row.ensures.row.count in
    let columns = c.new-words.ensures.words.columns in
    let few = c.new-words.ensures.words.few_columns in
    omega (arith, count, columns, few)

pub lay_row-requires-clause-small : goal.lay_row-requires-clause-small
lay_row-requires-clause-small c =
    let rows = c.new-words.ensures.words.rows in
    let test = c.loop-y-test.true in
    row_small c.args.board.now.flight c.args.at.now c.args.plan.now c.requires.unit c.read_row-row.result
    c.loop-y.y c.read_row-row.ensures.row (omega (arith, rows, test))

pub lay_row-requires-clause-columns : goal.lay_row-requires-clause-columns
lay_row-requires-clause-columns c =
    let rows = c.new-words.ensures.words.rows in
    let test = c.loop-y-test.true in
    row_columns c.args.board.now.flight c.args.at.now c.args.plan.now c.requires.unit c.read_row-row.result
    c.loop-y.y c.read_row-row.ensures.row (omega (arith, rows, test)) c.loop-y.field.across
    (c.loop-y.invariant.sides.columns ∙ ap (λ (s : FlightSizes). s.width / 4) (sym c.requires.place))

pub lay_row-requires-clause-row : goal.lay_row-requires-clause-row
lay_row-requires-clause-row c =
    let rows = c.new-words.ensures.words.rows in
    let test = c.loop-y-test.true in
    row_line c.args.board.now.flight c.args.at.now c.args.plan.now c.requires.unit c.read_row-row.result
    c.loop-y.y c.read_row-row.ensures.row (omega (arith, rows, test)) c.loop-y.field.down
    (c.loop-y.invariant.sides.rows ∙ ap (λ (s : FlightSizes). s.height / 4) (sym c.requires.place))

pub loop-y-preserved : goal.loop-y-preserved
loop-y-preserved c =
    let facts = c.args.board.now.flight in
    let u = c.args.at.now in
    let p = c.args.plan.now in
    let i = c.loop-y.invariant in
    let words = c.new-words.ensures.words in
    let rows = words.rows in
    let test = c.loop-y-test.true in
    let below : c.loop-y.y < height_of u.sizes u.line.row / 4 = omega (arith, rows, test) in
    let width = ap (λ (shape : PictureShape). shape.width) c.new-picture.ensures.value ∙ shape_width p in
    let address : c.unit_of-unit.result.address ≡ address_at p u =
    c.unit_of-unit.ensures.address ∙ ap (λ (n : ℕ). u.line.row * n + u.unit) width in
    record {
      knows = knows_as_much c.args.pass.now c.loop-y.pass c.read_row-row.new.pass i.knows c.read_row-row.ensures.same;
      slice = c.lay_row.ensures.slice;
      sides = c.lay_row.ensures.sides _ _ i.sides;
      places = unit_more facts u p c.requires.unit c.read_row-row.result c.loop-y.y c.read_row-row.ensures.row below
          c.words_tell_the_motion_of_their_places.ensures c.unit_of-unit.result.address c.new-words.result.columns
          address words.columns (motions_of c.args.field.now) (motions_of c.loop-y.field)
          (motions_of c.lay_row.new.field) i.places c.lay_row.ensures.places;
    }

pub returns-clause-places : goal.returns-clause-places
returns-clause-places c = λ i j across down.
    let facts = c.args.board.now.flight in
    let u = c.args.at.now in
    let s = c.args.layout.now in
    let place = c.requires.place in
    let words = c.new-words.ensures.words in
    let is = subst (λ (t : FlightSizes). IsOfFlight facts t) place c.requires.unit.flight in
    let sizes = sizes_of facts s is in
    let rows = words.rows in
    let high : c.loop-y.y ≡ height_of s u.line.row / 4 =
    omega (arith, c.loop-y-test.false, c.loop-y.auto.y-end, rows)
    ∙ ap (λ (t : FlightSizes). height_of t u.line.row / 4) place in
    let wide : c.new-words.result.columns ≡ width_of s u.unit / 4 =
    words.columns ∙ ap (λ (t : FlightSizes). width_of t u.unit / 4) place in
    let m = (folded_at (flight_in facts) u.line.picture).motions i j in
    unit_whole s u.line.row u.unit c.new-words.result.columns c.loop-y.y i j m
    (motions_of c.args.field.now i j) (motions_of c.loop-y.field i j) sizes
    (column_among s u.unit c.new-words.result.columns i sizes wide across)
    (row_among s u.line.row c.loop-y.y j sizes high down)
    (subst
    (λ (t : FlightSizes). motions_of c.loop-y.field i j
    ≡ cond ((nat_le (side_places t * u.line.row) j && nat_lt j (side_places t * u.line.row + c.loop-y.y))
    && (nat_le (side_places t * u.unit) i && nat_lt i (side_places t * u.unit + c.new-words.result.columns)))
    m (motions_of c.args.field.now i j))
    place (c.loop-y.invariant.places i j))
