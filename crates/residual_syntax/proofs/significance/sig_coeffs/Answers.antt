use Rattle.std.proofs.Common.{◌-◌, arith}
use Rattle.spec_cabac.specs.Bins.{data_end}
use Rattle.spec_cabac.proofs.Times.{times_goes_on, times_ends, times_done}
use Rattle.spec_residuals.specs.Significance.{sig_coeff}
use Rattle.residual_syntax.proofs.significance.sig_coeffs.Goals as goal

pub returns-in_err-sig_coeff-clause-value : goal.returns-in_err-sig_coeff-clause-value
returns-in_err-sig_coeff-clause-value c =
    rw c.from_residual.ensures (times_ends
    (λ i. sig_coeff c.args.block c.args.sub c.args.flagged (c.args.from - 1 - i)) c.loop-i.i c.args.from _ _ data_end _
    c.loop-i-test.true c.in_err-sig_coeff.ensures.value c.loop-i.invariant.told)

pub loop-i-preserved : goal.loop-i-preserved
loop-i-preserved c = record {
  told =
      times_goes_on (λ i. sig_coeff c.args.block c.args.sub c.args.flagged (c.args.from - 1 - i)) c.loop-i.i c.args.from
      _ _ _ _ _ c.loop-i-test.true c.in_ok-sig_coeff.ensures.value.0 c.loop-i.invariant.told;
  live = c.in_ok-sig_coeff.ensures.value.1;
  room = omega (arith, c.in_ok-sig_coeff.ensures.count, c.loop-i.invariant.room);
  small = c.in_ok-sig_coeff.ensures.small;
}

pub returns-clause-value : goal.returns-clause-value
returns-clause-value c = (
  times_done (λ i. sig_coeff c.args.block c.args.sub c.args.flagged (c.args.from - 1 - i)) c.loop-i.i c.args.from _ _
      _ c.loop-i-test.false c.loop-i.invariant.told,
  c.loop-i.invariant.live,
)
