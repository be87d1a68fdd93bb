use Rattle.std.proofs.Common.{Ok, ap, arith}
use Rattle.std.proofs.lemmas.Result.{err_from_is_err_and}
use Rattle.spec_cabac.specs.SpecFormats.{bind}
use Rattle.spec_cabac.proofs.Times.{times_goes_on, times_ends, times_done}
use Rattle.spec_residuals.specs.Levels.{level_at}
use Rattle.residual_syntax.proofs.remaining.levels_from.Goals as goal

pub returns-in_err-level_at-clause-value : goal.returns-in_err-level_at-clause-value
returns-in_err-level_at-clause-value c =
    let p = err_from_is_err_and c.from_residual.result c.from_residual.ensures.1 in
    rw (p.1, p.2) (ap (λ r. bind r (λ done t. Ok (done.1, t)))
    (times_ends (level_at c.args.block c.args.sub c.args.indices.now c.args.signs.now) c.loop-j.j _ _ _
    c.in_err-level_at.field-0.0 _ c.loop-j-test.true c.in_err-level_at.ensures.value c.loop-j.invariant.told))

pub loop-j-preserved : goal.loop-j-preserved
loop-j-preserved c = record {
  told =
      times_goes_on (level_at c.args.block c.args.sub c.args.indices.now c.args.signs.now) c.loop-j.j _ _ _ _ _ _
      c.loop-j-test.true c.in_ok-level_at.ensures.value.0 c.loop-j.invariant.told;
  live = c.in_ok-level_at.ensures.value.1;
  rice = c.in_ok-level_at.ensures.rice;
  sum = c.in_ok-level_at.ensures.sum;
  room = omega (arith, c.in_ok-level_at.ensures.count, c.loop-j.invariant.room);
}

pub returns-clause-value : goal.returns-clause-value
returns-clause-value c = (
  ap (λ r. bind r (λ done t. Ok (done.1, t)))
      (times_done (level_at c.args.block c.args.sub c.args.indices.now c.args.signs.now) c.loop-j.j _ _ _ _
      c.loop-j-test.false c.loop-j.invariant.told),
  c.loop-j.invariant.live,
)
