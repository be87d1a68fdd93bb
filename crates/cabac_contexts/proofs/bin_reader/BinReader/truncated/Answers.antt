use Rattle.std.proofs.Common.{rules}
use Rattle.std.proofs.lemmas.Result.{err_from_is_err_and}
use Rattle.spec_cabac.specs.SpecFormats.{give}
use Rattle.spec_cabac.specs.Bins.{bypass}
use Rattle.spec_cabac.proofs.Prefix.{unary_goes_on, unary_stops, unary_ends, unary_over}
use Rattle.cabac_contexts.proofs.bin_reader.BinReader.truncated.Goals as goal

pub returns-in_err-bypass-clause-value : goal.returns-in_err-bypass-clause-value
returns-in_err-bypass-clause-value c =
    let p = err_from_is_err_and c.from_residual.result c.from_residual.ensures.1 in
    rw (p.1, p.2) (
      unary_ends (give c.args.greatest) (λ i. bypass) c.loop-n.n c.args.greatest _
          c.in_err-bypass.field-0.0 _ c.loop-n-test.true c.in_err-bypass.ensures.0 c.loop-n.invariant.told,
      tt,
    )

pub returns-then-not-branch-clause-value : goal.returns-then-not-branch-clause-value
returns-then-not-branch-clause-value c = (
  unary_stops (give c.args.greatest) (λ i. bypass) c.loop-n.n c.args.greatest _ _ _ c.loop-n-test.true
      (search (rules, c.in_ok-bypass.ensures.0)) c.loop-n.invariant.told,
  c.in_ok-bypass.ensures.1,
)

pub loop-n-preserved : goal.loop-n-preserved
loop-n-preserved c = record {
  told =
      unary_goes_on (give c.args.greatest) (λ i. bypass) c.loop-n.n c.args.greatest _ _ _ c.loop-n-test.true
      (search (rules, c.in_ok-bypass.ensures.0)) c.loop-n.invariant.told;
  live = c.in_ok-bypass.ensures.1;
}

pub returns-clause-value : goal.returns-clause-value
returns-clause-value c = (
  unary_over (give c.args.greatest) (λ i. bypass) c.loop-n.n c.args.greatest _ _ c.loop-n-test.false
      c.loop-n.invariant.told,
  c.loop-n.invariant.live,
)
