use Rattle.std.proofs.Common.{ap, sym, subst, ◌∙◌}
use Rattle.progress_words.specs.declared.view.View.{View}
use Rattle.progress_words.specs.Passes.{view}
use Rattle.border_words.specs.FlightFacts.{FlightFacts}
use Rattle.built_rows.specs.Stages.{GoesOn, HasReached, HasRead, IsWorking}
use Rattle.built_rows.proofs.Going.{goes_on, knows_still}
use Rattle.built_rows.proofs.Working.{is_ready, reached_built, read_built, works_built}
use Rattle.built_rows.proofs.row.build_unit.Goals as goal

pub fill_next-pass-requires-clause-own : goal.fill_next-pass-requires-clause-own
fill_next-pass-requires-clause-own g c = c.prepare_unit.ensures.kept.own

pub finish_next-requires-clause-own : goal.finish_next-requires-clause-own
finish_next-requires-clause-own g c =
    let was = c.prepare_unit.ensures.kept.own in
    let knows = c.fill_next-pass.ensures.pass in
    (knows.0 ∙ was.0, ap (λ (u : View FlightFacts). u.facts) knows.1 ∙ was.1)

pub finish_next-requires-clause-working : goal.finish_next-requires-clause-working
finish_next-requires-clause-working g c =
    let facts = c.args.board.now.flight in
    let same = c.fill_next-pass.ensures.pass.1 in
    subst (λ (u : View FlightFacts). IsWorking facts c.args.picture.now c.args.at.now u c.fill_next-pass.new.builder)
    (sym same)
    (works_built facts c.args.picture.now c.args.at.now (view c.prepare_unit.new.pass) c.prepare_unit.new.builder
    c.fill_next-pass.new.builder (c.prepare_unit.ensures.working c.in-Ready.is) c.fill_next-pass.ensures.same)

pub finish_next-requires-clause-read : goal.finish_next-requires-clause-read
finish_next-requires-clause-read g c =
    let facts = c.args.board.now.flight in
    let same = c.fill_next-pass.ensures.pass.1 in
    subst (λ (u : View FlightFacts). HasRead facts c.args.picture.now c.args.at.now u c.fill_next-pass.new.builder)
    (sym same)
    (read_built facts c.args.picture.now c.args.at.now (view c.prepare_unit.new.pass) c.prepare_unit.new.builder
    c.fill_next-pass.new.builder (c.prepare_unit.ensures.read c.in-Ready.is) c.fill_next-pass.ensures.same)

pub finish_next-requires-clause-reached : goal.finish_next-requires-clause-reached
finish_next-requires-clause-reached g c =
    let facts = c.args.board.now.flight in
    let same = c.fill_next-pass.ensures.pass.1 in
    subst (λ (u : View FlightFacts). HasReached facts c.args.picture.now c.args.at.now u c.fill_next-pass.new.builder)
    (sym same)
    (reached_built facts c.args.picture.now c.args.at.now (view c.prepare_unit.new.pass) c.prepare_unit.new.builder
    c.fill_next-pass.new.builder (c.prepare_unit.ensures.reached c.in-Ready.is) c.fill_next-pass.ensures.same)

pub returns-in-Ready-clause-kept : goal.returns-in-Ready-clause-kept
returns-in-Ready-clause-kept g c =
    let board = c.args.board.now in
    let picture = c.args.picture.now in
    let working : IsWorking board.flight picture c.args.at.now (view c.prepare_unit.new.pass)
    c.fill_next-pass.new.builder =
    works_built board.flight picture c.args.at.now (view c.prepare_unit.new.pass) c.prepare_unit.new.builder
    c.fill_next-pass.new.builder (c.prepare_unit.ensures.working c.in-Ready.is) c.fill_next-pass.ensures.same in
    let filled : GoesOn board picture c.prepare_unit.new.pass c.fill_next-pass.result c.fill_next-pass.new.builder =
    knows_still board picture c.prepare_unit.new.pass c.fill_next-pass.result c.fill_next-pass.new.builder
    c.prepare_unit.ensures.kept.own working.known
    (is_ready board.flight picture c.args.at.now (view c.prepare_unit.new.pass) c.fill_next-pass.new.builder working)
    c.fill_next-pass.ensures.pass in
    goes_on board picture c.args.start c.fill_next-pass.result c.finish_next.new.pass c.fill_next-pass.new.builder
    c.finish_next.new.builder
    (goes_on board picture c.args.start c.prepare_unit.new.pass c.fill_next-pass.result c.prepare_unit.new.builder
    c.fill_next-pass.new.builder c.prepare_unit.ensures.kept filled)
    c.finish_next.ensures.kept
