use Rattle.std.proofs.Common.{arith}
use Rattle.flight_packing_laws.specs.UnitWords.{height, width}
use Rattle.done_units.proofs.Ends.{components_are}
use Rattle.done_units.proofs.Passes.{goes_on}
use Rattle.done_units.proofs.samples.write_samples.Goals as goal

pub write_component-cr-requires-clause-writing : goal.write_component-cr-requires-clause-writing
write_component-cr-requires-clause-writing c = c.write_component-cb.ensures.written.writing

pub write_component-cr-requires-clause-first : goal.write_component-cr-requires-clause-first
write_component-cr-requires-clause-first c = let cb = c.write_component-cb.ensures.next in omega (arith, cb)

pub write_component-requires-clause-writing : goal.write_component-requires-clause-writing
write_component-requires-clause-writing c = c.write_component-cr.ensures.written.writing

pub write_component-requires-clause-first : goal.write_component-requires-clause-first
write_component-requires-clause-first c =
    let cb = c.write_component-cb.ensures.next in
    let cr = c.write_component-cr.ensures.next in
    omega (arith, cb, cr)

pub returns-clause-next : goal.returns-clause-next
returns-clause-next c =
    let d = c.args.done.now in
    let all = components_are d.layout.now (width d) (height d) d.column in
    let cb = c.write_component-cb.ensures.next in
    let cr = c.write_component-cr.ensures.next in
    let end = c.write_component.ensures.next in
    omega (arith, all, cb, cr, end)

pub returns-clause-written : goal.returns-clause-written
returns-clause-written c =
    let b = c.args.board.now in
    let u = c.args.at.now in
    let p = c.args.pass.now in
    let cb = c.write_component-cb in
    let cr = c.write_component-cr in
    let end = c.write_component in
    let two = goes_on b u p cb.new.pass cr.new.pass cb.result cr.result cb.ensures.written cr.ensures.written in
    goes_on b u p cr.new.pass end.new.pass cr.result end.result two end.ensures.written
