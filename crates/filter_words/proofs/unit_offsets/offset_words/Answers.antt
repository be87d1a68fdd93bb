use Rattle.std.proofs.Common.{◌<◌, arith, refl, subst, sym, ap, ◌∙◌}
use Rattle.progress_words.specs.Passes.{view}
use Rattle.progress_words.specs.Views.{seen_of}
use Rattle.sample_words.specs.declared.unit_content.UnitContent.TheVariants.{Offsets}
use Rattle.line_words.specs.Places.{HasSizes, UnitAt, number_at, words_at}
use Rattle.flight_facts.specs.Boards.{board_flight}
use Rattle.flight_facts.specs.Facts.{flight_in}
use Rattle.flight_facts.proofs.Laid.{board_sizes}
use Rattle.filter_words.specs.Placed.{content_index}
use Rattle.filter_words.proofs.Placed.{offsets_fit, second_offset}
use Rattle.filter_words.proofs.Words.{read_at}
use Rattle.filter_words.proofs.unit_offsets.offset_words.Goals as goal

pub read_run-requires-clause-flight : goal.read_run-requires-clause-flight
read_run-requires-clause-flight c =
    subst (λ (u : UnitAt). HasSizes (board_flight (flight_in c.args.board.now.flight)) u.sizes) (sym c.at.ensures)
    (board_sizes c.args.board.now.flight c.args.unit.now.sizes c.requires.flight)

pub read_run-requires-clause-seen : goal.read_run-requires-clause-seen
read_run-requires-clause-seen c =
    subst (λ (u : UnitAt). u.unit < seen_of (view c.args.pass.now) (number_at u)) (sym c.at.ensures) c.requires.seen

pub read_run-requires-clause-inside : goal.read_run-requires-clause-inside
read_run-requires-clause-inside c =
    let fits = offsets_fit c.args.unit.now c.requires.phase c.offsets.result 2 c.offsets.ensures refl in
    let same = ap (λ (u : UnitAt). words_at u) c.at.ensures in
    omega (arith, fits, same)

pub returns-clause-first : goal.returns-clause-first
returns-clause-first c =
    c.read_run.ensures.value 0 (omega arith)
    ∙ read_at c.args.board.now.flight c.args.unit.now c.at.result.now c.offsets.result 0
    (content_index c.args.unit.now (Offsets 0)) c.at.ensures (omega (arith, c.offsets.ensures))

pub returns-clause-second : goal.returns-clause-second
returns-clause-second c =
    let next = second_offset c.args.unit.now in
    c.read_run.ensures.value 1 (omega arith)
    ∙ read_at c.args.board.now.flight c.args.unit.now c.at.result.now c.offsets.result 1
    (content_index c.args.unit.now (Offsets 1)) c.at.ensures (omega (arith, c.offsets.ensures, next))
