use Rattle.progress_words.specs.Passes.{view}
use Rattle.line_words.specs.Places.{number_at}
use Rattle.built_rows.proofs.Going.{goes_on, has_waited}
use Rattle.built_rows.proofs.Begun.{ready_on, stands_on}
use Rattle.built_rows.proofs.reading.read_next.Goals as goal

pub read_seen-requires-clause-stands : goal.read_seen-requires-clause-stands
read_seen-requires-clause-stands g c =
    let e = c.wait_to_read.ensures in
    stands_on c.args.board.now.flight c.args.picture.now c.args.at.now (view c.args.pass.now) c.args.builder.now
    (view c.wait_to_read.new.pass) e.waited e.known c.requires.stands

pub read_seen-requires-clause-seen : goal.read_seen-requires-clause-seen
read_seen-requires-clause-seen g c = c.wait_to_read.ensures.ready c.in-Ready.is

pub returns-in-Ready-clause-kept : goal.returns-in-Ready-clause-kept
returns-in-Ready-clause-kept g c =
    let e = c.wait_to_read.ensures in
    let ready =
    ready_on c.args.board.now.flight c.args.picture.now c.args.at.now (view c.args.pass.now) c.args.builder.now
    (view c.wait_to_read.new.pass) e.waited e.known c.requires.stands.working in
    goes_on c.args.board.now c.args.picture.now c.args.pass.now c.wait_to_read.new.pass c.read_seen.new.pass
    c.args.builder.now c.read_seen.new.builder
    (has_waited c.args.board.now c.args.picture.now c.args.pass.now c.wait_to_read.new.pass c.args.builder.now
    (number_at c.args.at.now) e.own e.known ready e.waited)
    c.read_seen.ensures.kept

pub returns-in-Stopped-clause-ended : goal.returns-in-Stopped-clause-ended
returns-in-Stopped-clause-ended g c stopped =
    c.wait_to_read.ensures.ended c.in-Stopped.is c.requires.stands.working.holds

pub returns-in-Stopped-clause-kept : goal.returns-in-Stopped-clause-kept
returns-in-Stopped-clause-kept g c =
    let e = c.wait_to_read.ensures in
    let ready =
    ready_on c.args.board.now.flight c.args.picture.now c.args.at.now (view c.args.pass.now) c.args.builder.now
    (view c.wait_to_read.new.pass) e.waited e.known c.requires.stands.working in
    has_waited c.args.board.now c.args.picture.now c.args.pass.now c.wait_to_read.new.pass c.args.builder.now
    (number_at c.args.at.now) e.own e.known ready e.waited
