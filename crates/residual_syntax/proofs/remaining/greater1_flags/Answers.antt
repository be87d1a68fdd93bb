use Rattle.std.proofs.lemmas.Result.{err_from_is_err_and}
use Rattle.spec_cabac.proofs.Times.{times_goes_on, times_ends, times_done}
use Rattle.spec_residuals.specs.Levels.{greater1_flag}
use Rattle.residual_syntax.proofs.remaining.greater1_flags.Goals as goal

pub returns-in_err-greater1_flag : goal.returns-in_err-greater1_flag
returns-in_err-greater1_flag c =
    let p = err_from_is_err_and c.from_residual.result c.from_residual.ensures.1 in
    record {
      value =
          rw (p.1, p.2) (times_ends (greater1_flag c.args.block c.args.set) c.loop-j.j _ _ _
          c.in_err-greater1_flag.field-0.0 _ c.loop-j-test.true c.in_err-greater1_flag.ensures.value
          c.loop-j.invariant.told);
    }

pub loop-j-preserved : goal.loop-j-preserved
loop-j-preserved c = record {
  told =
      times_goes_on (greater1_flag c.args.block c.args.set) c.loop-j.j _ _ _ _ _ _ c.loop-j-test.true
      c.in_ok-greater1_flag.ensures.value.0 c.loop-j.invariant.told;
  live = c.in_ok-greater1_flag.ensures.value.1;
  context = c.in_ok-greater1_flag.ensures.context;
}

pub returns : goal.returns
returns c = record {
  value = (
    times_done (greater1_flag c.args.block c.args.set) c.loop-j.j _ _ _ _ c.loop-j-test.false c.loop-j.invariant.told,
    c.loop-j.invariant.live,
  );
}
