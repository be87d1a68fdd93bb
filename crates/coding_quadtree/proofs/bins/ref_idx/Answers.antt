use Rattle.std.proofs.Common.{rules}
use Rattle.std.proofs.lemmas.Result.{err_from_is_err_and}
use Rattle.spec_cabac.specs.SpecFormats.{give}
use Rattle.spec_slice_data.specs.Inter.{reference_bin}
use Rattle.spec_cabac.proofs.Prefix.{unary_goes_on, unary_stops, unary_ends, unary_over}
use Rattle.coding_quadtree.proofs.bins.ref_idx.Goals as goal

pub returns-in_err-reference_bin : goal.returns-in_err-reference_bin
returns-in_err-reference_bin c =
    let p = err_from_is_err_and c.from_residual.result c.from_residual.ensures.1 in
    rw (p.1, p.2) (
      unary_ends (give c.args.greatest) reference_bin c.loop-i.i c.args.greatest _
          c.in_err-reference_bin.field-0.0 _ c.loop-i-test.true c.in_err-reference_bin.ensures.0
          c.loop-i.invariant.told,
      tt,
    )

pub returns-then-not-branch : goal.returns-then-not-branch
returns-then-not-branch c = (
  unary_stops (give c.args.greatest) reference_bin c.loop-i.i c.args.greatest _ _ _ c.loop-i-test.true
      (search (rules, c.in_ok-reference_bin.ensures.0)) c.loop-i.invariant.told,
  c.in_ok-reference_bin.ensures.1,
)

pub loop-i-preserved : goal.loop-i-preserved
loop-i-preserved c = record {
  told =
      unary_goes_on (give c.args.greatest) reference_bin c.loop-i.i c.args.greatest _ _ _ c.loop-i-test.true
      (search (rules, c.in_ok-reference_bin.ensures.0)) c.loop-i.invariant.told;
  live = c.in_ok-reference_bin.ensures.1;
}

pub returns : goal.returns
returns c = (
  unary_over (give c.args.greatest) reference_bin c.loop-i.i c.args.greatest _ _ c.loop-i-test.false
      c.loop-i.invariant.told,
  c.loop-i.invariant.live,
)
