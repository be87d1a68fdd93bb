use Rattle.std.proofs.Common.{arith}
use Rattle.progress_words.specs.Passes.{view}
use Rattle.line_words.specs.Places.{number_at}
use Rattle.filtered_rows.proofs.Counted.{unit_ended, unit_known, unit_more}
use Rattle.filtered_rows.proofs.Views.{holds_still, own_counted, parts_counted, parts_still, written_still}
use Rattle.filtered_rows.proofs.rows.filter_row.Goals as goal

pub filter_ready_row-requires-clause-holds : goal.filter_ready_row-requires-clause-holds
filter_ready_row-requires-clause-holds g c =
    holds_still (view c.args.pass.now) (view c.wait_for_row.new.pass) c.args.at.now c.requires.holds
    c.wait_for_row.ensures.waited

pub filter_ready_row-requires-clause-written : goal.filter_ready_row-requires-clause-written
filter_ready_row-requires-clause-written g c =
    written_still (view c.args.pass.now) (view c.wait_for_row.new.pass) (number_at c.args.at.now) 0
    c.wait_for_row.ensures.waited c.requires.written

pub filter_ready_row-requires-clause-ready : goal.filter_ready_row-requires-clause-ready
filter_ready_row-requires-clause-ready g c = c.wait_for_row.ensures.ready c.in-Ready.is

pub returns-in-Ready-clause-own : goal.returns-in-Ready-clause-own
returns-in-Ready-clause-own g c =
    own_counted c.args.board.now c.wait_for_row.new.pass c.filter_ready_row.new.pass (number_at c.args.at.now) 1
    c.wait_for_row.ensures.own c.filter_ready_row.ensures.counted

pub returns-in-Ready-clause-known : goal.returns-in-Ready-clause-known
returns-in-Ready-clause-known g c =
    unit_known c.args.board.now.flight c.args.layout.now c.requires.flight c.args.at.now c.requires.place
    c.line-line.ensures.unit c.requires.phase (view c.wait_for_row.new.pass)
    (holds_still (view c.args.pass.now) (view c.wait_for_row.new.pass) c.args.at.now c.requires.holds
    c.wait_for_row.ensures.waited)
    (view c.filter_ready_row.new.pass) c.filter_ready_row.ensures.counted.1 c.wait_for_row.ensures.known
    c.filter_ready_row.ensures.sound

pub returns-in-Ready-clause-ended : goal.returns-in-Ready-clause-ended
returns-in-Ready-clause-ended g c =
    unit_ended c.args.board.now.flight c.args.layout.now c.requires.flight c.args.at.now c.requires.place
    c.line-line.ensures.unit c.requires.phase (view c.wait_for_row.new.pass)
    (holds_still (view c.args.pass.now) (view c.wait_for_row.new.pass) c.args.at.now c.requires.holds
    c.wait_for_row.ensures.waited)
    (view c.filter_ready_row.new.pass) c.filter_ready_row.ensures.counted.1

pub returns-in-Ready-clause-parts : goal.returns-in-Ready-clause-parts
returns-in-Ready-clause-parts g c =
    parts_counted (view c.args.pass.now) (view c.wait_for_row.new.pass) (view c.filter_ready_row.new.pass)
    (number_at c.args.at.now) (number_at c.args.at.now) 1 c.wait_for_row.ensures.waited
    c.filter_ready_row.ensures.counted.1

pub returns-in-Ready-clause-more : goal.returns-in-Ready-clause-more
returns-in-Ready-clause-more g c = λ l.
    let first = c.wait_for_row.ensures.waited.more l in
    let second =
    unit_more c.args.board.now.flight c.args.layout.now c.requires.flight c.args.at.now c.requires.place
    c.line-line.ensures.unit c.requires.phase (view c.wait_for_row.new.pass)
    (holds_still (view c.args.pass.now) (view c.wait_for_row.new.pass) c.args.at.now c.requires.holds
    c.wait_for_row.ensures.waited)
    (view c.filter_ready_row.new.pass) c.filter_ready_row.ensures.counted.1 l in
    omega (arith, first, second)

pub returns-in-Stopped-clause-ended : goal.returns-in-Stopped-clause-ended
returns-in-Stopped-clause-ended g c = c.wait_for_row.ensures.ended c.in-Stopped.is c.requires.holds

pub returns-in-Stopped-clause-parts : goal.returns-in-Stopped-clause-parts
returns-in-Stopped-clause-parts g c =
    parts_still (view c.args.pass.now) (view c.wait_for_row.new.pass) (number_at c.args.at.now)
    c.wait_for_row.ensures.waited

pub returns-in-Stopped-clause-more : goal.returns-in-Stopped-clause-more
returns-in-Stopped-clause-more g c = c.wait_for_row.ensures.waited.more
