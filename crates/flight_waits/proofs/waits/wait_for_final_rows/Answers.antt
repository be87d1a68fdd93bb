use Rattle.progress_words.specs.Passes.{view}
use Rattle.progress_words.specs.Views.{seen_of}
use Rattle.flight_facts.specs.Boards.{flight_meaning}
use Rattle.flight_facts.specs.Facts.{flight_in}
use Rattle.flight_waits.proofs.Asked.{final_others, range_lines, range_met}
use Rattle.flight_waits.proofs.waits.wait_for_final_rows.Goals as goal

pub wait_at-requires-clause-lines : goal.wait_at-requires-clause-lines
wait_at-requires-clause-lines g c =
    range_lines c.args.board.now.flight c.args.layout.now c.requires.flight c.args.frame.now c.requires.frame
    c.args.at.now
    c.requires.place
    c.line-line.ensures.unit c.new-needs.result c.args.range c.new-needs.ensures

pub wait_at-requires-clause-others : goal.wait_at-requires-clause-others
wait_at-requires-clause-others g c =
    final_others c.args.board.now.flight c.args.layout.now c.requires.flight c.args.frame.now c.requires.frame
    c.args.at.now
    c.requires.place
    c.line-line.ensures.unit c.new-needs.result c.args.range c.new-needs.ensures c.requires.earlier

pub returns-clause-ready : goal.returns-clause-ready
returns-clause-ready g c = λ ready.
    range_met c.args.board.now.flight c.args.layout.now c.requires.flight c.args.frame.now c.requires.frame
    c.args.at.now
    c.requires.place
    c.line-line.ensures.unit (flight_meaning (flight_in c.args.board.now.flight))
    (seen_of (view c.wait_at.new.pass)) c.new-needs.result
    (c.wait_at.ensures.ready ready) c.args.range c.new-needs.ensures
