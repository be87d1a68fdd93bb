use Rattle.std.proofs.Common.{◌≡◌, ◌<◌, ap, sym, subst, ◌∙◌, arith}
use Rattle.hv_base.specs.declared.line.Line.{Line}
use Rattle.sample_words.specs.Words.{line_units}
use Rattle.progress_words.specs.Passes.{view}
use Rattle.line_words.specs.Places.{UnitAt}
use Rattle.built_rows.specs.Stages.{StandsAt, unit_in}
use Rattle.built_rows.proofs.Columns.{begins, goes_to_next}
use Rattle.built_rows.proofs.Going.{goes_on}
use Rattle.built_rows.proofs.Inside.{columns_are, some_across}
use Rattle.built_rows.proofs.row.build_units.Goals as goal

pub loop-x-init : goal.loop-x-init
loop-x-init g c =
    begins c.args.board.now c.args.picture.now c.args.line.row c.args.start c.args.builder.now
    (some_across c.args.board.now.flight c.args.picture.now c.requires.picture) c.requires.own c.requires.stands

pub new-at-requires-clause-unit : goal.new-at-requires-clause-unit
new-at-requires-clause-unit g c =
    subst (λ (l : Line). c.loop-x.x < line_units c.args.picture.now.layout.now l.phase) (sym c.requires.row)
    (omega (arith, c.loop-x-test.true, c.columns-columns.ensures.value))

pub build_unit-next-requires-clause-own : goal.build_unit-next-requires-clause-own
build_unit-next-requires-clause-own g c = c.loop-x.invariant.kept.own

pub build_unit-next-requires-clause-stands : goal.build_unit-next-requires-clause-stands
build_unit-next-requires-clause-stands g c =
    let across = columns_are c.args.board.now.flight c.args.picture.now c.requires.picture in
    let inside = c.loop-x-test.true in
    let value = c.columns-columns.ensures.value in
    let at_line : unit_in c.args.picture.now c.args.line.row c.loop-x.x ≡ c.new-at.result =
    ap (λ (l : Line). record { sizes = c.args.picture.now.layout.now; line = l; unit = c.loop-x.x })
    (sym c.requires.row)
    ∙ sym c.new-at.ensures in
    subst
    (λ (u : UnitAt). StandsAt c.args.board.now.flight c.args.picture.now u (view c.loop-x.pass) c.loop-x.builder)
    at_line (c.loop-x.invariant.stands (omega (arith, across, inside, value)))

pub returns-in-Stopped-clause-kept : goal.returns-in-Stopped-clause-kept
returns-in-Stopped-clause-kept g c =
    goes_on c.args.board.now c.args.picture.now c.args.start c.loop-x.pass c.build_unit-next.result.0 c.loop-x.builder
    c.build_unit-next.new.builder c.loop-x.invariant.kept c.build_unit-next.ensures.kept

pub loop-x-preserved : goal.loop-x-preserved
loop-x-preserved g c =
    let at_line : c.new-at.result ≡ unit_in c.args.picture.now c.args.line.row c.loop-x.x =
    c.new-at.ensures
    ∙ ap (λ (l : Line). record { sizes = c.args.picture.now.layout.now; line = l; unit = c.loop-x.x }) c.requires.row in
    goes_to_next c.args.board.now c.args.picture.now c.args.line.row c.args.start c.loop-x.x c.loop-x.pass
    c.build_unit-next.result.0 c.loop-x.builder c.build_unit-next.new.builder c.loop-x.invariant c.new-at.result at_line
    c.build_unit-next.ensures.kept (c.build_unit-next.ensures.next c.in-Ready.is)
    (c.build_unit-next.ensures.last c.in-Ready.is)

pub returns-clause-ended : goal.returns-clause-ended
returns-clause-ended g c =
    let across = columns_are c.args.board.now.flight c.args.picture.now c.requires.picture in
    let all = c.loop-x-test.false in
    let most = c.loop-x.auto.x-end in
    let value = c.columns-columns.ensures.value in
    c.loop-x.invariant.ended (omega (arith, across, all, most, value))

pub returns-clause-kept : goal.returns-clause-kept
returns-clause-kept g c = c.loop-x.invariant.kept
