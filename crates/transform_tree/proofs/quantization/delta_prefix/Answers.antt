use Rattle.std.proofs.Common.{rules}
use Rattle.std.proofs.lemmas.Result.{err_from_is_err_and}
use Rattle.residual_syntax.specs.SpecFormats.{give}
use Rattle.spec_slice_data.specs.Quantization.{delta_bin}
use Rattle.residual_syntax.proofs.SpecCabacLemmas.{unary_goes_on, unary_stops, unary_ends, unary_over}
use Rattle.transform_tree.proofs.quantization.delta_prefix.Goals as goal

pub returns-in_err-delta_bin-clause-value : goal.returns-in_err-delta_bin-clause-value
returns-in_err-delta_bin-clause-value c =
    let p = err_from_is_err_and c.from_residual.result c.from_residual.ensures.1 in
    rw (p.1, p.2) (
      unary_ends (give 5) delta_bin c.loop-i.i 5 _ c.in_err-delta_bin.field-0.0 _ c.loop-i-test.true
          c.in_err-delta_bin.ensures.0 c.loop-i.invariant.told,
      tt,
    )

pub returns-then-not-branch-clause-value : goal.returns-then-not-branch-clause-value
returns-then-not-branch-clause-value c = (
  unary_stops (give 5) delta_bin c.loop-i.i 5 _ _ _ c.loop-i-test.true (search (rules, c.in_ok-delta_bin.ensures.0))
      c.loop-i.invariant.told,
  c.in_ok-delta_bin.ensures.1,
)

pub loop-i-preserved : goal.loop-i-preserved
loop-i-preserved c = record {
  told =
      unary_goes_on (give 5) delta_bin c.loop-i.i 5 _ _ _ c.loop-i-test.true
      (search (rules, c.in_ok-delta_bin.ensures.0)) c.loop-i.invariant.told;
  live = c.in_ok-delta_bin.ensures.1;
}

pub returns-clause-value : goal.returns-clause-value
returns-clause-value c = (
  unary_over (give 5) delta_bin c.loop-i.i 5 _ _ c.loop-i-test.false c.loop-i.invariant.told,
  c.loop-i.invariant.live,
)
