use Rattle.std.proofs.Common.{◌+◌}
use Rattle.line_words.specs.Places.{number_at, words_at}
use Rattle.flight_waits.proofs.FactsOfFlights.{board_sizes}
use Rattle.done_units.proofs.Passes.{counted_then, ends}
use Rattle.done_units.proofs.finishing.finish_unit.Goals as goal

pub count_unit-requires-clause-own : goal.count_unit-requires-clause-own
count_unit-requires-clause-own c =
    let r = c.requires in
    (ends c.args.board.now c.args.at.now c.args.pass.now c.write_unit.new.pass (words_at c.args.at.now) r.own r.next
    r.unit r.written c.write_unit.ensures).own

pub count_unit-requires-clause-flight : goal.count_unit-requires-clause-flight
count_unit-requires-clause-flight c = board_sizes c.args.board.now.flight c.args.at.now.sizes c.requires.flight

pub count_unit-requires-clause-next : goal.count_unit-requires-clause-next
count_unit-requires-clause-next c =
    let r = c.requires in
    (ends c.args.board.now c.args.at.now c.args.pass.now c.write_unit.new.pass (words_at c.args.at.now) r.own r.next
    r.unit r.written c.write_unit.ensures).next

pub count_unit-requires-clause-unit : goal.count_unit-requires-clause-unit
count_unit-requires-clause-unit c =
    let r = c.requires in
    (ends c.args.board.now c.args.at.now c.args.pass.now c.write_unit.new.pass (words_at c.args.at.now) r.own r.next
    r.unit r.written c.write_unit.ensures).unit

pub count_unit-requires-clause-written : goal.count_unit-requires-clause-written
count_unit-requires-clause-written c =
    let r = c.requires in
    (ends c.args.board.now c.args.at.now c.args.pass.now c.write_unit.new.pass (words_at c.args.at.now) r.own r.next
    r.unit r.written c.write_unit.ensures).written

pub returns-clause-seen : goal.returns-clause-seen
returns-clause-seen c =
    counted_then c.args.pass.now c.write_unit.new.pass c.count_unit.new.pass (words_at c.args.at.now)
    (number_at c.args.at.now) (c.args.at.now.unit + 1) c.write_unit.ensures c.count_unit.ensures.seen
