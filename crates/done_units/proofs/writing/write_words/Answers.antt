use Rattle.std.proofs.Common.{arith, rules, ◌+◌, length, refl}
use Rattle.flight_waits.proofs.FactsOfFlights.{board_sizes}
use Rattle.done_units.proofs.Passes.{has_written}
use Rattle.done_units.proofs.Standing.{expected_there, index_fits, size_is}
use Rattle.done_units.proofs.writing.write_words.Goals as goal

pub write_run-requires-clause-own : goal.write_run-requires-clause-own
write_run-requires-clause-own c = c.requires.writing.own

pub write_run-requires-clause-flight : goal.write_run-requires-clause-flight
write_run-requires-clause-flight c = board_sizes c.args.board.now.flight c.args.at.now.sizes c.requires.flight

pub write_run-requires-clause-next : goal.write_run-requires-clause-next
write_run-requires-clause-next c = c.requires.writing.next

pub write_run-requires-clause-unit : goal.write_run-requires-clause-unit
write_run-requires-clause-unit c = c.requires.writing.unit

pub write_run-requires-clause-written : goal.write_run-requires-clause-written
write_run-requires-clause-written c = c.requires.writing.written

pub write_run-requires-clause-inside : goal.write_run-requires-clause-inside
write_run-requires-clause-inside c =
    let size = size_is c.args.board.now.flight c.args.at.now c.args.done.now c.requires.flight c.requires.done in
    let inside = c.requires.inside in
    omega (arith, size, inside)

pub write_run-requires-clause-value : goal.write_run-requires-clause-value
write_run-requires-clause-value c = λ k inside.
    expected_there c.args.board.now.flight c.args.at.now c.args.done.now c.requires.flight c.requires.done
    (c.args.first + k) _ (c.requires.value k inside)

pub overflow_add-result : goal.overflow_add-result
overflow_add-result c =
    let fits =
    index_fits c.args.board.now.flight c.args.at.now c.args.done.now c.requires.flight c.requires.done
    (c.args.first + length c.args.words.now) c.requires.inside in
    search rules

pub returns-clause-written : goal.returns-clause-written
returns-clause-written c =
    has_written c.args.board.now c.args.at.now c.args.pass.now c.write_run.new.pass c.args.first
    (length c.args.words.now) _ c.requires.writing c.write_run.ensures refl
