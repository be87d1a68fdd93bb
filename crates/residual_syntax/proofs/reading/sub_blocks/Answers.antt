use Rattle.std.proofs.Common.{Ok, ap, ◌-◌, arith}
use Rattle.std.proofs.lemmas.Result.{err_from_is_err_and}
use Rattle.spec_cabac.specs.SpecFormats.{bind}
use Rattle.spec_cabac.proofs.Times.{times_goes_on, times_ends, times_done}
use Rattle.spec_residuals.specs.Residual.{sub_block}
use Rattle.residual_syntax.proofs.Positions.{areas}
use Rattle.residual_syntax.proofs.reading.sub_blocks.Goals as goal

pub returns-in_err-sub_block-clause-value : goal.returns-in_err-sub_block-clause-value
returns-in_err-sub_block-clause-value c =
    let p = err_from_is_err_and c.from_residual.result c.from_residual.ensures.1 in
    rw (p.1, p.2) (ap (λ r. bind r (λ done t. Ok (done.1, t)))
    (times_ends (λ k. sub_block c.args.block c.args.last c.args.position (c.args.last - k)) c.loop-k.k _ _ _
    c.in_err-sub_block.field-0.0 _ c.loop-k-test.true c.in_err-sub_block.ensures.value c.loop-k.invariant.told))

pub loop-k-preserved : goal.loop-k-preserved
loop-k-preserved c = record {
  told =
      times_goes_on (λ k. sub_block c.args.block c.args.last c.args.position (c.args.last - k)) c.loop-k.k _ _ _ _ _ _
      c.loop-k-test.true c.in_ok-sub_block.ensures.value.0 c.loop-k.invariant.told;
  live = c.in_ok-sub_block.ensures.value.1;
  count = omega (arith, c.in_ok-sub_block.ensures.count, c.loop-k.invariant.count);
}

pub returns-clause-value : goal.returns-clause-value
returns-clause-value c = (
  ap (λ r. bind r (λ done t. Ok (done.1, t)))
      (times_done (λ k. sub_block c.args.block c.args.last c.args.position (c.args.last - k)) c.loop-k.k _ _ _ _
      c.loop-k-test.false c.loop-k.invariant.told),
  c.loop-k.invariant.live,
)

pub returns-clause-few : goal.returns-clause-few
returns-clause-few c =
    omega (arith, c.loop-k.invariant.count, c.requires.last, areas c.args.block.log2 c.requires.least)
