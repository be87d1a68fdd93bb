use Rattle.std.proofs.Common.{ℕ, ◌<◌, subst}
use Rattle.progress_words.specs.Faults.{unit_in}
use Rattle.progress_words.specs.Passes.{view}
use Rattle.flight_lines.specs.Numbers.{numbered_needs}
use Rattle.line_words.specs.Places.{number_at}
use Rattle.line_words.proofs.Waiting.{all_sound_on}
use Rattle.flight_facts.specs.Boards.{flight_meaning}
use Rattle.flight_facts.specs.Facts.{flight_in}
use Rattle.flight_facts.proofs.Laid.{board_sizes}
use Rattle.flight_waits.proofs.Waited.{ended, has_waited}
use Rattle.flight_waits.proofs.waits.wait_at.Goals as goal

pub wait_for-requires-clause-flight : goal.wait_for-requires-clause-flight
wait_for-requires-clause-flight g c = board_sizes c.args.board.now.flight c.args.layout.now c.requires.flight

pub returns-clause-ended : goal.returns-clause-ended
returns-clause-ended g c = λ stopped holds.
    let v = view c.args.pass.now in
    let w = view c.wait_for.new.pass in
    let waited = has_waited v w (number_at c.args.at.now) (numbered_needs c.args.layout.now c.args.needs.now)
    c.requires.others c.wait_for.ensures.kept.1 in
    ended c.args.board.now.flight c.args.layout.now c.requires.flight v w c.args.at.now c.unit_number-unit.ensures.unit
    c.requires.place holds waited
    (subst (λ (n : ℕ). unit_in w.least < n) c.unit_number-unit.ensures.value (c.wait_for.ensures.stopped stopped).0)

pub returns-clause-waited : goal.returns-clause-waited
returns-clause-waited g c =
    has_waited (view c.args.pass.now) (view c.wait_for.new.pass) (number_at c.args.at.now)
    (numbered_needs c.args.layout.now c.args.needs.now) c.requires.others c.wait_for.ensures.kept.1

pub returns-clause-known : goal.returns-clause-known
returns-clause-known g c =
    all_sound_on (flight_meaning (flight_in c.args.board.now.flight)) (view c.args.pass.now)
    (view c.wait_for.new.pass) (numbered_needs c.args.layout.now c.args.needs.now) c.requires.known
    c.wait_for.ensures.kept.1 c.wait_for.ensures.sound
