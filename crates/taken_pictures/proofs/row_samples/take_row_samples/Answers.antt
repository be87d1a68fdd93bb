use Rattle.std.proofs.Common.{◌≡◌, ℕ, ◌<◌, cond, sym, subst, arith}
use Rattle.hv_base.specs.declared.line.Phase.TheVariants.{S}
use Rattle.picture_buffer.specs.Planes.{samples_of}
use Rattle.sample_words.specs.Contents.{component_side}
use Rattle.line_words.specs.Places.{number_at}
use Rattle.line_words.proofs.Words.{knows_as_much}
use Rattle.sample_lines.specs.FactsOfFlights.{flight_in}
use Rattle.sample_lines.specs.FactsOfFlights.{samples_at}
use Rattle.taken_pictures.specs.Rows.{is_line_of_row}
use Rattle.taken_pictures.proofs.Passes.{stays_own, stays_seen}
use Rattle.taken_pictures.proofs.Taken.{components_all}
use Rattle.taken_pictures.proofs.Tests.{component_more}
use Rattle.taken_pictures.proofs.row_samples.take_row_samples.Goals as goal

pub take_component-requires-clause-own : goal.take_component-requires-clause-own
take_component-requires-clause-own c =
    stays_own c.args.pass.now c.loop-c.pass c.loop-c.invariant.knows c.args.board.now c.requires.own

pub take_component-requires-clause-seen : goal.take_component-requires-clause-seen
take_component-requires-clause-seen c =
    stays_seen c.args.pass.now c.loop-c.pass c.loop-c.invariant.knows (number_at c.args.at.now) c.args.at.now.unit
    c.requires.seen

pub loop-c-preserved : goal.loop-c-preserved
loop-c-preserved c =
    let i = c.loop-c.invariant in
    let s = c.args.layout.now in
    let l = c.args.at.now.line in
    let f = flight_in c.args.board.now.flight in
    let mid = c.loop-c.planes in
    let new = c.take_component.new.planes in
    record {
      knows = knows_as_much c.args.pass.now c.loop-c.pass c.take_component.new.pass i.knows
          c.take_component.ensures.same;
      sides = c.take_component.ensures.sides;
      samples = λ k x y few column line.
          component_more (is_line_of_row s k l.row y) c.loop-c.c k (samples_at f l.picture S k x y)
          (samples_of c.args.planes.now k x y) (samples_of mid k x y) (samples_of new k x y)
          (i.samples k x y few column line)
          (λ same. subst
          (λ (n : ℕ). x < component_side n s.width → y < component_side n s.height
          → samples_of new n x y
          ≡ cond (is_line_of_row s n l.row y) (samples_at f l.picture S n x y) (samples_of mid n x y))
          (sym same) (c.take_component.ensures.value x y) column line)
          (c.take_component.ensures.others k x y);
    }

pub returns-clause-samples : goal.returns-clause-samples
returns-clause-samples c = λ k x y few column line.
    let s = c.args.layout.now in
    let l = c.args.at.now.line in
    components_all k c.loop-c.c (is_line_of_row s k l.row y)
    (samples_at (flight_in c.args.board.now.flight) l.picture S k x y)
    (samples_of c.args.planes.now k x y) (samples_of c.loop-c.planes k x y)
    (let test = c.loop-c-test.false in omega (arith, test, few)) (c.loop-c.invariant.samples k x y few column line)
