use Rattle.std.proofs.Common.{◌<◌, arith, refl, subst, sym, ap, ◌∙◌}
use Rattle.progress_words.specs.Passes.{view}
use Rattle.progress_words.specs.Views.{seen_of}
use Rattle.sample_words.specs.declared.unit_content.UnitContent.TheVariants.{Modes}
use Rattle.line_words.specs.Places.{HasSizes, UnitAt, number_at, words_at}
use Rattle.flight_facts.specs.Boards.{board_flight}
use Rattle.flight_facts.specs.Facts.{flight_in}
use Rattle.flight_facts.proofs.Laid.{board_sizes}
use Rattle.filter_words.specs.Placed.{content_index}
use Rattle.filter_words.proofs.Placed.{first_fits}
use Rattle.filter_words.proofs.Words.{read_at}
use Rattle.filter_words.proofs.unit_offsets.first_modes.Goals as goal

pub read_run-requires-clause-flight : goal.read_run-requires-clause-flight
read_run-requires-clause-flight c =
    subst (λ (u : UnitAt). HasSizes (board_flight (flight_in c.args.board.now.flight)) u.sizes) (sym c.at.ensures)
    (board_sizes c.args.board.now.flight c.args.unit.now.sizes c.requires.flight)

pub read_run-requires-clause-seen : goal.read_run-requires-clause-seen
read_run-requires-clause-seen c =
    subst (λ (u : UnitAt). u.unit < seen_of (view c.args.pass.now) (number_at u)) (sym c.at.ensures) c.requires.seen

pub read_run-requires-clause-inside : goal.read_run-requires-clause-inside
read_run-requires-clause-inside c =
    let fits = first_fits c.args.unit.now c.requires.phase c.modes.result 1 c.modes.ensures refl in
    let same = ap (λ (u : UnitAt). words_at u) c.at.ensures in
    omega (arith, fits, same)

pub returns-clause-value : goal.returns-clause-value
returns-clause-value c =
    c.read_run.ensures.value 0 (omega arith)
    ∙ read_at c.args.board.now.flight c.args.unit.now c.at.result.now c.modes.result 0
    (content_index c.args.unit.now (Modes 0 0)) c.at.ensures (omega (arith, c.modes.ensures))
