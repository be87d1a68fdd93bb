use Rattle.progress_words.specs.Passes.{view}
use Rattle.progress_words.specs.Views.{seen_of}
use Rattle.flight_facts.specs.Boards.{flight_meaning}
use Rattle.flight_facts.specs.Facts.{flight_in}
use Rattle.flight_waits.proofs.Asked.{frame_sizes, line_here, read_met, read_others}
use Rattle.flight_waits.proofs.waits.wait_to_read.Goals as goal

pub needs_to_read-needs-requires : goal.needs_to_read-needs-requires
needs_to_read-needs-requires g c =
    line_here c.args.board.now.flight c.args.layout.now c.requires.flight c.args.frame.now c.requires.frame
    c.args.at.now
    c.requires.place
    c.line.ensures.unit c.line.result c.line.ensures.value

pub wait_at-requires-clause-lines : goal.wait_at-requires-clause-lines
wait_at-requires-clause-lines g c =
    c.needs_to_read-needs.ensures.lines c.args.layout.now
    (frame_sizes c.args.board.now.flight c.args.layout.now c.requires.flight c.args.frame.now c.requires.frame
    c.args.at.now
    c.requires.place
    c.line.ensures.unit)

pub wait_at-requires-clause-others : goal.wait_at-requires-clause-others
wait_at-requires-clause-others g c =
    read_others c.args.board.now.flight c.args.layout.now c.requires.flight c.args.frame.now c.requires.frame
    c.args.at.now
    c.requires.place
    c.line.ensures.unit c.needs_to_read-needs.result c.line.result c.unit.result c.line.ensures.value
    c.needs_to_read-needs.ensures.value

pub returns-clause-ready : goal.returns-clause-ready
returns-clause-ready g c = λ ready.
    read_met c.args.board.now.flight c.args.layout.now c.requires.flight c.args.frame.now c.requires.frame c.args.at.now
    c.requires.place
    c.line.ensures.unit (flight_meaning (flight_in c.args.board.now.flight))
    (seen_of (view c.wait_at.new.pass)) c.needs_to_read-needs.result
    (c.wait_at.ensures.ready ready) c.line.result c.args.at.now.unit c.unit.result c.line.ensures.value
    c.unit.ensures.value c.needs_to_read-needs.ensures.value
