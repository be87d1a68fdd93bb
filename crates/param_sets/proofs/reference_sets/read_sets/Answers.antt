use Rattle.std.proofs.lemmas.Result.{err_from_is_err_and}
use Rattle.std.proofs.Common.{◌+◌, arith}
use Rattle.header_types.proofs.ReferencePictures.{All-IsStRps-weaker}
use Rattle.spec_formats.proofs.Lists.{length-push}
use Rattle.header_fields.proofs.Loops.{goes_on, refuses, ends}
use Rattle.param_sets.proofs.ListLoops.{sets_are_loop, near-push}
use Rattle.param_sets.proofs.reference_sets.read_sets.Goals as goal

pub read_st_rps-requires-clause-former : goal.read_st_rps-requires-clause-former
read_st_rps-requires-clause-former c =
    rw c.as_slice.ensures (All-IsStRps-weaker (14 + c.loop-index.index) 78 (omega arith) c.loop-index.sets
    c.loop-index.invariant.in_range)

pub loop-index-preserved : goal.loop-index-preserved
loop-index-preserved c =
    let told = rw (c.as_slice.ensures, ← c.loop-index.invariant.len) at c.in_ok-set.ensures.value in
    let near = rw c.as_slice.ensures at c.in_ok-set.ensures.near in
    rw c.in_ok-push.ensures.ok (record {
      at =
          goes_on (sets_are_loop c.args.reader.now.rules c.args.count c.args.greatest) c.loop-index.index
          c.loop-index.sets c.in_ok-set.set _ c.loop-index.reader c.read_st_rps.new.reader c.loop-index.invariant.at
          c.loop-index-test.true told;
      len = length-push c.loop-index.sets c.in_ok-set.set c.loop-index.index c.loop-index.invariant.len;
      in_range =
          near-push c.loop-index.index c.loop-index.sets c.in_ok-set.set c.loop-index.invariant.in_range
          (near (14 + c.loop-index.index) (omega arith) c.loop-index.invariant.in_range);
    })

pub returns-in_err-set-clause-value : goal.returns-in_err-set-clause-value
returns-in_err-set-clause-value c =
    let told = rw (c.as_slice.ensures, ← c.loop-index.invariant.len) at c.in_err-set.ensures.value in
    let p = err_from_is_err_and c.from_residual.result c.from_residual.ensures.1 in
    rw (p.1, p.2) (refuses (sets_are_loop c.args.reader.now.rules c.args.count c.args.greatest) c.loop-index.index
    c.loop-index.sets c.in_err-set.field-0.0 _ c.loop-index.reader c.read_st_rps.new.reader c.loop-index.invariant.at
    c.loop-index-test.true told)

pub returns-clause-value : goal.returns-clause-value
returns-clause-value c =
    ends (sets_are_loop c.args.reader.now.rules c.args.count c.args.greatest) c.loop-index.index c.loop-index.sets _
    c.loop-index.reader c.loop-index.invariant.at c.loop-index-test.false
