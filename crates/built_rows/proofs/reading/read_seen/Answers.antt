use Rattle.std.proofs.Common.{◌∙◌, ap, sym, subst}
use Rattle.board_core.specs.Needs.{read_needs}
use Rattle.sample_words.specs.declared.sizes.FlightSizes.{FlightSizes}
use Rattle.progress_words.specs.declared.view.View.{View}
use Rattle.progress_words.specs.Passes.{view}
use Rattle.spec_flights.specs.Rows.{flight_rows}
use Rattle.border_words.specs.FlightFacts.{FlightFacts}
use Rattle.border_words.specs.FlightFacts.{flight_in}
use Rattle.border_words.specs.FlightFacts.{IsOfFlight}
use Rattle.border_words.proofs.FlightFactsLemmas.{board_sizes}
use Rattle.done_units.specs.FlightWaits.{AreSeen, HoldsUnit}
use Rattle.border_words.proofs.Passes.{stays_own}
use Rattle.built_rows.specs.Stages.{HasRead, IsWorking}
use Rattle.built_rows.proofs.Broken.{tells_fault, unit_rule, unit_unsound}
use Rattle.built_rows.proofs.Going.{knows_still}
use Rattle.built_rows.proofs.Inside.{address_inside, plan_at}
use Rattle.built_rows.proofs.Read.{has_read, left_read, plan_still, read_known, reader_still, stored_still}
use Rattle.built_rows.proofs.Read.{working_read}
use Rattle.built_rows.proofs.Working.{is_ready}
use Rattle.built_rows.proofs.reading.read_seen.Goals as goal

pub read_over-requires-clause-inside : goal.read_over-requires-clause-inside
read_over-requires-clause-inside c =
    address_inside c.args.board.now.flight c.args.picture.now c.requires.picture c.args.at.now
    c.requires.stands.working.unit c.line-line.ensures.unit

pub read_over-requires-clause-plan : goal.read_over-requires-clause-plan
read_over-requires-clause-plan c =
    plan_still c.args.board.now.flight c.args.picture.now c.args.at.now (view c.args.pass.now) c.args.builder.now
    c.lay_next_above.new.builder c.requires.picture c.line-line.ensures.unit c.requires.stands
    c.lay_next_above.ensures.same

pub read_over-requires-clause-reader : goal.read_over-requires-clause-reader
read_over-requires-clause-reader c =
    reader_still c.args.board.now.flight c.args.picture.now c.args.at.now (view c.args.pass.now) c.args.builder.now
    c.lay_next_above.new.builder c.requires.picture c.line-line.ensures.unit c.requires.stands
    c.lay_next_above.ensures.same

pub find_bad-requires-clause-own : goal.find_bad-requires-clause-own
find_bad-requires-clause-own c =
    stays_own c.args.pass.now c.lay_next_above.new.pass c.lay_next_above.ensures.pass c.args.board.now c.requires.own

pub find_bad-requires-clause-flight : goal.find_bad-requires-clause-flight
find_bad-requires-clause-flight c =
    board_sizes c.args.board.now.flight c.args.at.now.sizes
    (subst (λ (s : FlightSizes). IsOfFlight c.args.board.now.flight s) (sym c.requires.stands.working.unit.sizes)
    c.requires.picture.flight)

pub find_bad-requires-clause-job : goal.find_bad-requires-clause-job
find_bad-requires-clause-job c =
    ap (λ (u : View FlightFacts). u.job) c.lay_next_above.ensures.pass.1 ∙ c.requires.stands.working.holds.job

pub find_bad-requires-clause-unit : goal.find_bad-requires-clause-unit
find_bad-requires-clause-unit c =
    (subst (λ (u : View FlightFacts). HoldsUnit u c.args.at.now) (sym c.lay_next_above.ensures.pass.1)
    c.requires.stands.working.holds).next

pub find_bad-requires-clause-unsound : goal.find_bad-requires-clause-unsound
find_bad-requires-clause-unsound c =
    let facts = c.args.board.now.flight in
    let picture = c.args.picture.now in
    let at = c.args.at.now in
    let v = view c.args.pass.now in
    let b = c.args.builder.now in
    let d = c.lay_next_above.new.builder in
    let is = c.requires.picture in
    let there = c.line-line.ensures.unit in
    let stands = c.requires.stands in
    let lays = c.lay_next_above.ensures in
    let known = read_known facts picture at v b d is there stands lays.same c.sound_units_are_read_by.ensures
    c.requires.seen in
    let told = c.in-Err.ensures.value facts is lays.here
    (stored_still facts picture at v b d is there stands lays.same) known in
    unit_unsound (flight_in facts) at picture.plan.now (plan_at facts picture is at stands.working.unit there)
    stands.working.unit.phase told.0.0

pub find_bad-requires-clause-rule : goal.find_bad-requires-clause-rule
find_bad-requires-clause-rule c =
    let facts = c.args.board.now.flight in
    let picture = c.args.picture.now in
    let at = c.args.at.now in
    let v = view c.args.pass.now in
    let b = c.args.builder.now in
    let d = c.lay_next_above.new.builder in
    let is = c.requires.picture in
    let there = c.line-line.ensures.unit in
    let stands = c.requires.stands in
    let lays = c.lay_next_above.ensures in
    let known = read_known facts picture at v b d is there stands lays.same c.sound_units_are_read_by.ensures
    c.requires.seen in
    let told = c.in-Err.ensures.value facts is lays.here
    (stored_still facts picture at v b d is there stands lays.same) known in
    unit_rule (flight_in facts) at picture.plan.now (plan_at facts picture is at stands.working.unit there)
    stands.working.unit.phase c.in-Err.breach told.0.1

pub find_bad-requires-clause-met : goal.find_bad-requires-clause-met
find_bad-requires-clause-met c =
    let facts = c.args.board.now.flight in
    let needs = read_needs (flight_rows (flight_in facts)) c.args.at.now.line c.args.at.now.unit in
    subst (λ (s : FlightSizes). AreSeen facts s (view c.lay_next_above.new.pass) needs)
    (sym c.requires.stands.working.unit.sizes)
    (subst (λ (u : View FlightFacts). AreSeen facts c.args.picture.now.layout.now u needs)
    (sym c.lay_next_above.ensures.pass.1) c.requires.seen)

pub returns-in-Err-clause-kept : goal.returns-in-Err-clause-kept
returns-in-Err-clause-kept c =
    let facts = c.args.board.now.flight in
    let working =
    working_read facts c.args.picture.now c.args.at.now (view c.args.pass.now) c.args.builder.now
    c.lay_next_above.new.builder c.read_over.new.builder c.requires.stands c.lay_next_above.ensures.same
    c.in-Err.ensures.same c.in-Err.ensures.plan in
    tells_fault c.args.board.now c.args.picture.now c.args.pass.now c.lay_next_above.new.pass c.find_bad.new.pass
    c.read_over.new.builder _ c.requires.stands.working.known
    (is_ready facts c.args.picture.now c.args.at.now (view c.args.pass.now) c.read_over.new.builder working)
    c.lay_next_above.ensures.pass c.find_bad.ensures.own c.find_bad.ensures.stopped

pub returns-in-Ok-clause-working : goal.returns-in-Ok-clause-working
returns-in-Ok-clause-working c ready =
    let facts = c.args.board.now.flight in
    subst (λ (u : View FlightFacts). IsWorking facts c.args.picture.now c.args.at.now u c.read_over.new.builder)
    (sym c.lay_next_above.ensures.pass.1)
    (working_read facts c.args.picture.now c.args.at.now (view c.args.pass.now) c.args.builder.now
    c.lay_next_above.new.builder c.read_over.new.builder c.requires.stands c.lay_next_above.ensures.same
    c.in-Ok.ensures.same c.in-Ok.ensures.plan)

pub returns-in-Ok-clause-read : goal.returns-in-Ok-clause-read
returns-in-Ok-clause-read c ready =
    let facts = c.args.board.now.flight in
    let picture = c.args.picture.now in
    let at = c.args.at.now in
    let v = view c.args.pass.now in
    let b = c.args.builder.now in
    let d = c.lay_next_above.new.builder in
    let is = c.requires.picture in
    let there = c.line-line.ensures.unit in
    let stands = c.requires.stands in
    let lays = c.lay_next_above.ensures in
    let known = read_known facts picture at v b d is there stands lays.same c.sound_units_are_read_by.ensures
    c.requires.seen in
    let told = c.in-Ok.ensures.value facts is lays.here
    (stored_still facts picture at v b d is there stands lays.same) known in
    subst (λ (u : View FlightFacts). HasRead facts picture at u c.read_over.new.builder) (sym lays.pass.1)
    (has_read facts picture at v b d c.read_over.new.builder stands lays.same c.in-Ok.ensures.same
    c.in-Ok.ensures.plan c.requires.seen c.in-Ok.ensures.segment told.0 told.1 lays.laid lays.next)

pub returns-in-Ok-clause-left : goal.returns-in-Ok-clause-left
returns-in-Ok-clause-left c ready =
    left_read c.args.board.now.flight c.args.picture.now c.args.at.now (view c.args.pass.now) c.args.builder.now
    c.lay_next_above.new.builder c.read_over.new.builder c.requires.stands c.lay_next_above.ensures.same
    c.in-Ok.ensures.same c.in-Ok.ensures.plan

pub returns-in-Ok-clause-kept : goal.returns-in-Ok-clause-kept
returns-in-Ok-clause-kept c =
    let facts = c.args.board.now.flight in
    let working =
    working_read facts c.args.picture.now c.args.at.now (view c.args.pass.now) c.args.builder.now
    c.lay_next_above.new.builder c.read_over.new.builder c.requires.stands c.lay_next_above.ensures.same
    c.in-Ok.ensures.same c.in-Ok.ensures.plan in
    knows_still c.args.board.now c.args.picture.now c.args.pass.now c.lay_next_above.new.pass
    c.read_over.new.builder c.requires.own c.requires.stands.working.known
    (is_ready facts c.args.picture.now c.args.at.now (view c.args.pass.now) c.read_over.new.builder working)
    c.lay_next_above.ensures.pass
