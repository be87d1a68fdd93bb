use Rattle.row_waits.proofs.Steps.{ready_looked, ready_may, ready_row, stopped_looked, stopped_may}
use Rattle.row_waits.proofs.Waited.{not_looked}
use Rattle.row_waits.proofs.reach.wait_for_row.Goals as goal

pub wait_for_final_rows-requires-clause-own : goal.wait_for_final_rows-requires-clause-own
wait_for_final_rows-requires-clause-own g c = c.requires.may.own

pub wait_for_final_rows-requires-clause-flight : goal.wait_for_final_rows-requires-clause-flight
wait_for_final_rows-requires-clause-flight g c = c.requires.may.flight.flight

pub wait_for_final_rows-requires-clause-place : goal.wait_for_final_rows-requires-clause-place
wait_for_final_rows-requires-clause-place g c = c.requires.may.unit.sizes

pub wait_for_final_rows-requires-clause-frame : goal.wait_for_final_rows-requires-clause-frame
wait_for_final_rows-requires-clause-frame g c = c.requires.may.flight.frame

pub wait_for_final_rows-requires-clause-known : goal.wait_for_final_rows-requires-clause-known
wait_for_final_rows-requires-clause-known g c = c.requires.may.known

pub returns-then-has-clause-looked : goal.returns-then-has-clause-looked
returns-then-has-clause-looked g c = not_looked c.args.at.now c.args.pass.now c.args.seen.now

pub returns-in-Ready-clause-ready : goal.returns-in-Ready-clause-ready
returns-in-Ready-clause-ready g c ready =
    let e = c.wait_for_final_rows.ensures in
    ready_row c.args.board.now c.args.picture.now c.args.at.now c.args.pass.now c.wait_for_final_rows.new.pass
    c.args.seen.now c.requires.may e.own e.known e.waited c.args.other c.args.row c.add.new.self c.add.ensures.sides
    c.add.ensures.rows (e.ready c.in-Ready.is)

pub returns-in-Ready-clause-may : goal.returns-in-Ready-clause-may
returns-in-Ready-clause-may g c =
    let e = c.wait_for_final_rows.ensures in
    ready_may c.args.board.now c.args.picture.now c.args.at.now c.args.pass.now c.wait_for_final_rows.new.pass
    c.args.seen.now c.requires.may e.own e.known e.waited c.args.other c.args.row c.add.new.self c.add.ensures.sides
    c.add.ensures.rows (e.ready c.in-Ready.is)

pub returns-in-Ready-clause-looked : goal.returns-in-Ready-clause-looked
returns-in-Ready-clause-looked g c =
    let e = c.wait_for_final_rows.ensures in
    ready_looked c.args.board.now c.args.picture.now c.args.at.now c.args.pass.now c.wait_for_final_rows.new.pass
    c.args.seen.now c.requires.may e.own e.known e.waited c.args.other c.args.row c.add.new.self c.add.ensures.sides
    c.add.ensures.rows (e.ready c.in-Ready.is)

pub returns-in-Stopped-clause-may : goal.returns-in-Stopped-clause-may
returns-in-Stopped-clause-may g c =
    let e = c.wait_for_final_rows.ensures in
    stopped_may c.args.board.now c.args.picture.now c.args.at.now c.args.pass.now c.wait_for_final_rows.new.pass
    c.args.seen.now c.requires.may e.own e.known e.waited

pub returns-in-Stopped-clause-looked : goal.returns-in-Stopped-clause-looked
returns-in-Stopped-clause-looked g c =
    let e = c.wait_for_final_rows.ensures in
    stopped_looked c.args.board.now c.args.picture.now c.args.at.now c.args.pass.now c.wait_for_final_rows.new.pass
    c.args.seen.now c.requires.may e.own e.known e.waited
