use Rattle.std.proofs.Common.{◌≡◌, ℕ, ◌*◌, ◌<◌, ◌≤◌, refl, ap, sym, subst, ◌∙◌, arith, slice_get}
use Rattle.hv_base.specs.declared.line.Line.{Line}
use Rattle.hv_base.specs.declared.line.Phase.TheVariants.{B}
use Rattle.picture_buffer.specs.Motion.{motions_of}
use Rattle.sample_words.specs.Sizes.{columns, rows}
use Rattle.sample_words.specs.Words.{line_number}
use Rattle.spec_flights.specs.Pictures.{folded_at}
use Rattle.progress_words.specs.Passes.{view}
use Rattle.progress_words.specs.Views.{seen_of}
use Rattle.line_words.proofs.Words.{knows_as_much}
use Rattle.sample_lines.specs.FactsOfFlights.{flight_meaning}
use Rattle.sample_lines.specs.FactsOfFlights.{flight_in}
use Rattle.taken_pictures.specs.Rows.{side_places}
use Rattle.taken_pictures.proofs.Passes.{stays_known, stays_own}
use Rattle.taken_pictures.proofs.Pictures.{picture_inside, picture_line, places_in, places_out, row_seen}
use Rattle.taken_pictures.proofs.Places.{sizes_of}
use Rattle.taken_pictures.proofs.Sides.{place_before_end}
use Rattle.taken_pictures.proofs.Taken.{places_more, with_line}
use Rattle.taken_pictures.proofs.whole_pictures.take_motion.Goals as goal

pub loop-row-init : goal.loop-row-init
loop-row-init c =
    let facts = c.args.board.now.flight in
    let s = c.args.layout.now in
    let must = c.requires in
    record {
      knows = (refl, refl);
      places = places_in facts s c.args.picture c.args.plan.now must.flight must.picture c.args.field.now must.places;
      motions = λ i j across down above. absurd (omega (arith, above));
    }

pub take_row_motion-requires-clause-own : goal.take_row_motion-requires-clause-own
take_row_motion-requires-clause-own c =
    stays_own c.args.pass.now c.loop-row.pass c.loop-row.invariant.knows c.args.board.now c.requires.own

pub take_row_motion-requires-clause-line : goal.take_row_motion-requires-clause-line
take_row_motion-requires-clause-line c =
    let s = c.args.layout.now in
    let test = c.loop-row-test.true in
    let count = c.rows-rows.ensures.value in
    picture_line s c.built_line-built.result B c.args.picture c.loop-row.row c.built_line-built.ensures
    (picture_inside c.args.board.now.flight s c.args.picture c.args.plan.now c.requires.flight c.requires.picture)
    (omega (arith, test, count))

pub take_row_motion-requires-clause-phase : goal.take_row_motion-requires-clause-phase
take_row_motion-requires-clause-phase c = ap (λ (l : Line). l.phase) c.built_line-built.ensures

pub take_row_motion-requires-clause-picture : goal.take_row_motion-requires-clause-picture
take_row_motion-requires-clause-picture c =
    ap (λ (l : Line). slice_get (flight_in c.args.board.now.flight).pictures l.picture) c.built_line-built.ensures
    ∙ c.requires.picture

pub take_row_motion-requires-clause-seen : goal.take_row_motion-requires-clause-seen
take_row_motion-requires-clause-seen c =
    let s = c.args.layout.now in
    let test = c.loop-row-test.true in
    let count = c.rows-rows.ensures.value in
    let v = view c.loop-row.pass in
    let seen = (row_seen s (view c.args.pass.now) v c.args.picture c.loop-row.row c.loop-row.invariant.knows.1
    c.requires.seen (omega (arith, test, count))).built in
    subst (λ (l : Line). columns s ≤ seen_of v (line_number s l)) (sym c.built_line-built.ensures) seen

pub take_row_motion-requires-clause-known : goal.take_row_motion-requires-clause-known
take_row_motion-requires-clause-known c =
    stays_known c.args.pass.now c.loop-row.pass c.loop-row.invariant.knows
    (flight_meaning (flight_in c.args.board.now.flight)) c.requires.known

pub loop-row-preserved : goal.loop-row-preserved
loop-row-preserved c =
    let i = c.loop-row.invariant in
    let f = flight_in c.args.board.now.flight in
    let s = c.args.layout.now in
    let k : ℕ = c.args.picture in
    let row : ℕ = c.loop-row.row in
    record {
      knows = knows_as_much c.args.pass.now c.loop-row.pass c.take_row_motion.new.pass i.knows
          c.take_row_motion.ensures.same;
      places = c.take_row_motion.ensures.sides;
      motions = λ x y across down.
          places_more s row y ((folded_at f k).motions x y) (motions_of c.loop-row.field x y)
          (motions_of c.take_row_motion.new.field x y) (i.motions x y across down)
          (c.take_row_motion.ensures.places x y across down
          ∙ ap (λ (l : Line). with_line f s l (motions_of c.loop-row.field) x y) c.built_line-built.ensures);
    }

pub returns-clause-places : goal.returns-clause-places
returns-clause-places c =
    places_out c.args.board.now.flight c.args.layout.now c.args.picture c.args.plan.now c.requires.flight
    c.requires.picture c.loop-row.field c.loop-row.invariant.places

pub returns-clause-motion : goal.returns-clause-motion
returns-clause-motion c =
    let facts = c.args.board.now.flight in
    let s = c.args.layout.now in
    let i = c.loop-row.invariant in
    let count = c.rows-rows.ensures.value in
    let all : rows s ≡ c.loop-row.row = omega (arith, c.loop-row-test.false, c.loop-row.auto.row-end, count) in
    c.fields_hold_their_motion.ensures facts s c.args.picture c.args.plan.now c.loop-row.field c.requires.flight
    c.requires.picture i.places
    (λ x y across down.
    i.motions x y across down
    (subst (λ (m : ℕ). y < side_places s * m) all
    (place_before_end s y (sizes_of facts s c.requires.flight) down)))
