use Rattle.std.proofs.Common.{ℕ, ◌+◌, ◌*◌, arith}
use Rattle.spec_picture_trees.specs.Places.{unit_places}
use Rattle.spec_picture_trees.specs.Shapes.{picture_shape}
use Rattle.spec_slice_data.specs.Residual.{samples_of_place}
use Rattle.spec_slice_data.specs.Segment.{PictureShape}
use Rattle.spec_flights.specs.Pictures.{folded_at}
use Rattle.row_borders.specs.Next.{HasLine}
use Rattle.line_words.specs.Places.{number_at}
use Rattle.line_words.proofs.Words.{knows_as_much}
use Rattle.sample_lines.specs.FactsOfFlights.{flight_in}
use Rattle.border_words.proofs.Laying.{same_lines, shape_stays, three}
use Rattle.border_words.proofs.Passes.{stays_own, stays_seen}
use Rattle.border_words.proofs.lowest_lines.lay_lines_above.Goals as goal

pub lay_line-requires-2-clause-own : goal.lay_line-requires-2-clause-own
lay_line-requires-2-clause-own c =
    stays_own c.args.pass.now c.lay_line.new.pass c.lay_line.ensures.pass c.args.board.now c.requires.own

pub lay_line-requires-2-clause-seen : goal.lay_line-requires-2-clause-seen
lay_line-requires-2-clause-seen c =
    stays_seen c.args.pass.now c.lay_line.new.pass c.lay_line.ensures.pass (number_at c.args.at.now)
    c.args.at.now.unit c.requires.seen

pub lay_line-requires-2-clause-border : goal.lay_line-requires-2-clause-border
lay_line-requires-2-clause-border c =
    shape_stays c.args.border.now c.lay_line.new.border _ _ c.lay_line.ensures.same c.requires.border

pub lay_line-requires-3-clause-own : goal.lay_line-requires-3-clause-own
lay_line-requires-3-clause-own c =
    stays_own c.args.pass.now c.lay_line-2.new.pass
    (knows_as_much c.args.pass.now c.lay_line.new.pass c.lay_line-2.new.pass c.lay_line.ensures.pass
    c.lay_line-2.ensures.pass)
    c.args.board.now c.requires.own

pub lay_line-requires-3-clause-seen : goal.lay_line-requires-3-clause-seen
lay_line-requires-3-clause-seen c =
    stays_seen c.args.pass.now c.lay_line-2.new.pass
    (knows_as_much c.args.pass.now c.lay_line.new.pass c.lay_line-2.new.pass c.lay_line.ensures.pass
    c.lay_line-2.ensures.pass)
    (number_at c.args.at.now) c.args.at.now.unit c.requires.seen

pub lay_line-requires-3-clause-border : goal.lay_line-requires-3-clause-border
lay_line-requires-3-clause-border c =
    shape_stays c.lay_line.new.border c.lay_line-2.new.border _ _ c.lay_line-2.ensures.same
    (shape_stays c.args.border.now c.lay_line.new.border _ _ c.lay_line.ensures.same c.requires.border)

pub returns-clause-same : goal.returns-clause-same
returns-clause-same c =
    same_lines c.args.border.now c.lay_line-2.new.border c.lay_line-3.new.border
    (same_lines c.args.border.now c.lay_line.new.border c.lay_line-2.new.border c.lay_line.ensures.same
    c.lay_line-2.ensures.same)
    c.lay_line-3.ensures.same

pub returns-clause-pass : goal.returns-clause-pass
returns-clause-pass c =
    knows_as_much c.args.pass.now c.lay_line-2.new.pass c.lay_line-3.new.pass
    (knows_as_much c.args.pass.now c.lay_line.new.pass c.lay_line-2.new.pass c.lay_line.ensures.pass
    c.lay_line-2.ensures.pass)
    c.lay_line-3.ensures.pass

pub returns-clause-lines : goal.returns-clause-lines
returns-clause-lines c =
    let u = c.args.at.now in
    let q : PictureShape = picture_shape c.args.plan.now.sps c.args.plan.now.pps in
    let n : ℕ = unit_places q in
    let units = folded_at (flight_in c.args.board.now.flight) u.line.picture in
    three
    (λ k. HasLine q (u.line.row + 1) c.args.border.now.above units k (samples_of_place k * (n * u.unit))
    → HasLine q (u.line.row + 1) c.lay_line-3.new.border.above units k (samples_of_place k * (n * (u.unit + 1))))
    (λ has. c.lay_line-3.ensures.others 0 _ (λ e. omega (arith, e))
    (c.lay_line-2.ensures.others 0 _ (λ e. omega (arith, e)) (c.lay_line.ensures.line has)))
    (λ has. c.lay_line-3.ensures.others 1 _ (λ e. omega (arith, e))
    (c.lay_line-2.ensures.line (c.lay_line.ensures.others 1 _ (λ e. omega (arith, e)) has)))
    (λ has. c.lay_line-3.ensures.line
    (c.lay_line-2.ensures.others 2 _ (λ e. omega (arith, e))
    (c.lay_line.ensures.others 2 _ (λ e. omega (arith, e)) has)))
