use Rattle.std.proofs.lemmas.Result.{err_from_is_err_and}
use Rattle.spec_formats.proofs.Lists.{length-push}
use Rattle.header_fields.proofs.Loops.{goes_on, refuses, ends}
use Rattle.param_sets.proofs.ListLoops.{lists_are_loop}
use Rattle.param_sets.proofs.scaling.read_lists.Goals as goal

pub loop-preserved : goal.loop-preserved
loop-preserved c =
    let told = rw c.deref.ensures.value at c.in_ok-list.ensures in
    rw c.in_ok-push.ensures.items (record {
      at =
          goes_on (lists_are_loop c.args.reader.now.rules c.args.size c.list_count-count.result) c.loop.counter
          c.loop.lists.items c.in_ok-list.list _ c.loop.reader c.read_list.new.reader c.loop.invariant.at
          c.loop-test.true told;
      places = length-push c.loop.lists.items c.in_ok-list.list c.loop.counter c.loop.invariant.places;
    })

pub returns-in_err-list : goal.returns-in_err-list
returns-in_err-list c =
    let told = rw c.deref.ensures.value at c.in_err-list.ensures in
    let p = err_from_is_err_and c.from_residual.result c.from_residual.ensures.1 in
    rw (p.1, p.2) (refuses (lists_are_loop c.args.reader.now.rules c.args.size c.list_count-count.result) c.loop.counter
    c.loop.lists.items c.in_err-list.field-0.0 _ c.loop.reader c.read_list.new.reader c.loop.invariant.at
    c.loop-test.true told)

pub returns : goal.returns
returns c =
    ends (lists_are_loop c.args.reader.now.rules c.args.size c.list_count-count.result) c.loop.counter
    c.loop.lists.items _ c.loop.reader c.loop.invariant.at c.loop-test.false
