use Rattle.std.proofs.lemmas.Result.{err_from_is_err_and}
use Rattle.std.proofs.Common.{arith}
use Rattle.spec_cabac.proofs.Times.{times_goes_on, times_ends, times_done}
use Rattle.spec_slice_data.specs.Tree.{pcm_sample}
use Rattle.coding_quadtree.proofs.unit.pcm_samples.Goals as goal

pub returns-in_err-pcm_sample-clause-value : goal.returns-in_err-pcm_sample-clause-value
returns-in_err-pcm_sample-clause-value c =
    let p = err_from_is_err_and c.from_residual.result c.from_residual.ensures.1 in
    rw (p.1, p.2) (times_ends (pcm_sample c.args.bits) c.loop-i.i c.args.count _ _ c.in_err-pcm_sample.field-0.0 _
    c.loop-i-test.true (c.in_err-pcm_sample.ensures.value c.loop-i.i) c.loop-i.invariant.told)

pub loop-i-preserved : goal.loop-i-preserved
loop-i-preserved c = record {
  told =
      times_goes_on (pcm_sample c.args.bits) c.loop-i.i c.args.count _ _ _ _ _ c.loop-i-test.true
      (c.in_ok-pcm_sample.ensures.value c.loop-i.i) c.loop-i.invariant.told;
  grown = omega (arith, c.in_ok-pcm_sample.ensures.room, c.loop-i.invariant.grown);
}

pub returns-clause-value : goal.returns-clause-value
returns-clause-value c =
    times_done (pcm_sample c.args.bits) c.loop-i.i c.args.count _ _ _ c.loop-i-test.false c.loop-i.invariant.told
