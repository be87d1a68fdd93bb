use Rattle.hv_base.specs.declared.line.Phase.TheVariants.{H}
use Rattle.progress_words.specs.Passes.{view}
use Rattle.progress_words.specs.Views.{seen_of}
use Rattle.flight_facts.specs.Boards.{flight_meaning}
use Rattle.flight_facts.specs.Facts.{flight_in}
use Rattle.flight_waits.proofs.Asked.{beside_others, built_met, frame_sizes, line_beside}
use Rattle.flight_waits.proofs.waits.wait_for_built_rows.Goals as goal

pub needs_to_count-needs-requires : goal.needs_to_count-needs-requires
needs_to_count-needs-requires g c =
    line_beside c.args.board.now.flight c.args.layout.now c.requires.flight c.args.frame.now c.requires.frame
    c.args.at.now
    c.requires.place
    c.line-line.ensures.unit H c.line_of-beside.result c.line-line.result c.line-line.ensures.value
    c.line_of-beside.ensures

pub wait_at-requires-clause-lines : goal.wait_at-requires-clause-lines
wait_at-requires-clause-lines g c =
    c.needs_to_count-needs.ensures.lines c.args.layout.now
    (frame_sizes c.args.board.now.flight c.args.layout.now c.requires.flight c.args.frame.now c.requires.frame
    c.args.at.now
    c.requires.place
    c.line-line.ensures.unit)

pub wait_at-requires-clause-others : goal.wait_at-requires-clause-others
wait_at-requires-clause-others g c =
    beside_others c.args.board.now.flight c.args.layout.now c.requires.flight c.args.frame.now c.requires.frame
    c.args.at.now
    c.requires.place
    c.line-line.ensures.unit c.needs_to_count-needs.result c.line_of-beside.result c.line-line.result
    c.line-line.ensures.value c.line_of-beside.ensures
    c.needs_to_count-needs.ensures.value c.requires.phase

pub returns-clause-ready : goal.returns-clause-ready
returns-clause-ready g c = λ ready.
    built_met c.args.board.now.flight c.args.layout.now c.requires.flight c.args.frame.now c.requires.frame
    c.args.at.now
    c.requires.place
    c.line-line.ensures.unit (flight_meaning (flight_in c.args.board.now.flight))
    (seen_of (view c.wait_at.new.pass)) c.needs_to_count-needs.result
    (c.wait_at.ensures.ready ready) c.line_of-beside.result c.line-line.result c.line-line.ensures.value
    c.line_of-beside.ensures c.needs_to_count-needs.ensures.value
