use Rattle.std.proofs.Common.{◌≡◌, ℕ, ◌<◌, refl, ap, sym, subst, ◌∙◌, arith}
use Rattle.hv_base.specs.declared.line.Line.{Line}
use Rattle.hv_base.specs.declared.line.Phase.TheVariants.{S}
use Rattle.picture_buffer.specs.Planes.{samples_of}
use Rattle.board_core.specs.Places.{line_of}
use Rattle.sample_words.specs.Sizes.{rows}
use Rattle.progress_words.specs.Passes.{view}
use Rattle.progress_words.specs.Views.{seen_of}
use Rattle.line_words.specs.Places.{UnitAt, number_at}
use Rattle.line_words.proofs.Words.{knows_as_much}
use Rattle.sample_lines.specs.FactsOfFlights.{flight_in}
use Rattle.sample_lines.specs.FactsOfFlights.{samples_at}
use Rattle.taken_pictures.specs.Rows.{first_line}
use Rattle.taken_pictures.proofs.Passes.{stays_own}
use Rattle.taken_pictures.proofs.Pictures.{final_unit, picture_inside, picture_line, row_seen, sides_in, sides_out}
use Rattle.taken_pictures.proofs.Pictures.{unit_at}
use Rattle.taken_pictures.proofs.Sides.{line_before_end, no_lines}
use Rattle.taken_pictures.proofs.Taken.{lines_more, with_row}
use Rattle.taken_pictures.proofs.whole_pictures.take_samples.Goals as goal

pub loop-row-init : goal.loop-row-init
loop-row-init c =
    let facts = c.args.board.now.flight in
    let s = c.args.layout.now in
    let must = c.requires in
    record {
      knows = (refl, refl);
      sides = sides_in facts s c.args.picture c.args.plan.now must.flight must.picture c.args.planes.now must.sides;
      samples = λ k x y few column line above. absurd (no_lines s k y above);
    }

pub new-at-requires-clause-line : goal.new-at-requires-clause-line
new-at-requires-clause-line c =
    let s = c.args.layout.now in
    let test = c.loop-row-test.true in
    let count = c.rows-rows.ensures.value in
    picture_line s c.final_line-last.result S c.args.picture c.loop-row.row c.final_line-last.ensures
    (picture_inside c.args.board.now.flight s c.args.picture c.args.plan.now c.requires.flight c.requires.picture)
    (omega (arith, test, count))

pub new-at-requires-clause-unit : goal.new-at-requires-clause-unit
new-at-requires-clause-unit c =
    final_unit c.args.layout.now c.final_line-last.result c.args.picture c.loop-row.row c.final_line-last.ensures

pub take_row_samples-requires-clause-own : goal.take_row_samples-requires-clause-own
take_row_samples-requires-clause-own c =
    stays_own c.args.pass.now c.loop-row.pass c.loop-row.invariant.knows c.args.board.now c.requires.own

pub take_row_samples-requires-clause-place : goal.take_row_samples-requires-clause-place
take_row_samples-requires-clause-place c = ap (λ (u : UnitAt). u.sizes) c.new-at.ensures

pub take_row_samples-requires-clause-phase : goal.take_row_samples-requires-clause-phase
take_row_samples-requires-clause-phase c =
    ap (λ (u : UnitAt). u.line.phase) c.new-at.ensures ∙ ap (λ (l : Line). l.phase) c.final_line-last.ensures

pub take_row_samples-requires-clause-seen : goal.take_row_samples-requires-clause-seen
take_row_samples-requires-clause-seen c =
    let s = c.args.layout.now in
    let test = c.loop-row-test.true in
    let count = c.rows-rows.ensures.value in
    let v = view c.loop-row.pass in
    let seen = (row_seen s (view c.args.pass.now) v c.args.picture c.loop-row.row c.loop-row.invariant.knows.1
    c.requires.seen (omega (arith, test, count))).final in
    subst (λ (u : UnitAt). u.unit < seen_of v (number_at u))
    (sym (c.new-at.ensures ∙ ap (λ (l : Line). unit_at s l 0) c.final_line-last.ensures))
    (omega (arith, seen))

pub loop-row-preserved : goal.loop-row-preserved
loop-row-preserved c =
    let i = c.loop-row.invariant in
    let f = flight_in c.args.board.now.flight in
    let s = c.args.layout.now in
    let k : ℕ = c.args.picture in
    let row : ℕ = c.loop-row.row in
    let final : c.new-at.result ≡ unit_at s (line_of S k row) 0 =
    c.new-at.ensures ∙ ap (λ (l : Line). unit_at s l 0) c.final_line-last.ensures in
    record {
      knows = knows_as_much c.args.pass.now c.loop-row.pass c.take_row_samples.new.pass i.knows
          c.take_row_samples.ensures.same;
      sides = c.take_row_samples.ensures.sides;
      samples = λ n x y few column line.
          lines_more s n row y (samples_at f k S n x y) (samples_of c.loop-row.planes n x y)
          (samples_of c.take_row_samples.new.planes n x y) (i.samples n x y few column line)
          (c.take_row_samples.ensures.samples n x y few column line
          ∙ ap (λ (u : UnitAt). with_row f s u (samples_of c.loop-row.planes) n x y) final);
    }

pub returns-clause-sides : goal.returns-clause-sides
returns-clause-sides c =
    sides_out c.args.board.now.flight c.args.layout.now c.args.picture c.args.plan.now c.requires.flight
    c.requires.picture c.loop-row.planes c.loop-row.invariant.sides

pub returns-clause-samples : goal.returns-clause-samples
returns-clause-samples c =
    let s = c.args.layout.now in
    let i = c.loop-row.invariant in
    let count = c.rows-rows.ensures.value in
    let all : rows s ≡ c.loop-row.row = omega (arith, c.loop-row-test.false, c.loop-row.auto.row-end, count) in
    c.planes_hold_their_samples.ensures c.args.board.now.flight s c.args.picture c.args.plan.now c.loop-row.planes
    c.requires.flight c.requires.picture i.sides
    (λ n x y few column line.
    i.samples n x y few column line
    (subst (λ (m : ℕ). y < first_line s n m) all (line_before_end s n y line)))
