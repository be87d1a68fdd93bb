use Rattle.progress_words.specs.Passes.{view}
use Rattle.progress_words.specs.Views.{seen_of}
use Rattle.flight_facts.specs.Boards.{flight_meaning}
use Rattle.flight_facts.specs.Facts.{flight_in}
use Rattle.flight_waits.proofs.Asked.{collocated_met, collocated_others, frame_sizes, line_earlier}
use Rattle.flight_waits.proofs.waits.wait_for_collocated_row.Goals as goal

pub needs_to_count-needs-requires : goal.needs_to_count-needs-requires
needs_to_count-needs-requires g c =
    line_earlier c.args.board.now.flight c.args.layout.now c.requires.flight c.args.frame.now c.requires.frame
    c.args.at.now
    c.requires.place
    c.line.ensures.unit c.args.picture c.line_of-line.result c.line.result c.requires.earlier c.line.ensures.value
    c.line_of-line.ensures

pub wait_at-requires-clause-lines : goal.wait_at-requires-clause-lines
wait_at-requires-clause-lines g c =
    c.needs_to_count-needs.ensures.lines c.args.layout.now
    (frame_sizes c.args.board.now.flight c.args.layout.now c.requires.flight c.args.frame.now c.requires.frame
    c.args.at.now
    c.requires.place
    c.line.ensures.unit)

pub wait_at-requires-clause-others : goal.wait_at-requires-clause-others
wait_at-requires-clause-others g c =
    collocated_others c.args.board.now.flight c.args.layout.now c.requires.flight c.args.frame.now c.requires.frame
    c.args.at.now
    c.requires.place
    c.line.ensures.unit c.needs_to_count-needs.result c.args.picture c.line_of-line.result c.line.result
    c.requires.earlier
    c.line.ensures.value c.line_of-line.ensures c.needs_to_count-needs.ensures.value

pub returns-clause-ready : goal.returns-clause-ready
returns-clause-ready g c = λ ready.
    collocated_met c.args.board.now.flight c.args.layout.now c.requires.flight c.args.frame.now c.requires.frame
    c.args.at.now
    c.requires.place
    c.line.ensures.unit (flight_meaning (flight_in c.args.board.now.flight))
    (seen_of (view c.wait_at.new.pass)) c.needs_to_count-needs.result
    (c.wait_at.ensures.ready ready) c.args.picture c.line_of-line.result c.line.result c.line.ensures.value
    c.line_of-line.ensures
    c.needs_to_count-needs.ensures.value
