use Rattle.std.proofs.Common.{◌≡◌, rules, true, false, Ok}
use Rattle.std.proofs.lemmas.Result.{err_from_is_err_and}
use Rattle.spec_cabac.specs.SpecFormats.{refuse}
use Rattle.spec_cabac.specs.Bins.{read, bypass}
use Rattle.spec_cabac.proofs.Prefix.{unary_goes_on, unary_stops, unary_ends, unary_over}
use Rattle.cabac_contexts.specs.Takes.{state_of}
use Rattle.cabac_contexts.proofs.bin_reader.BinReader.ones.Goals as goal

pub returns-in_err-bypass-clause-value : goal.returns-in_err-bypass-clause-value
returns-in_err-bypass-clause-value c =
    let p = err_from_is_err_and c.from_residual.result c.from_residual.ensures.1 in
    rw (p.1, p.2) (
      unary_ends (refuse c.args.too_great) (λ i. bypass) c.loop-i.i 32 _ c.in_err-bypass.field-0.0 _
          c.loop-i-test.true c.in_err-bypass.ensures.0 c.loop-i.invariant.told,
      tt,
    )

pub returns-then-not-branch-clause-value : goal.returns-then-not-branch-clause-value
returns-then-not-branch-clause-value c =
    let is : read bypass (state_of c.loop-i.self) ≡ Ok (false, state_of c.bypass.new.self) =
    search (rules, c.in_ok-bypass.ensures.0) in (
      unary_stops (refuse c.args.too_great) (λ i. bypass) c.loop-i.i 32 _ _ _ c.loop-i-test.true is
          c.loop-i.invariant.told,
      c.in_ok-bypass.ensures.1,
    )

pub loop-i-preserved : goal.loop-i-preserved
loop-i-preserved c =
    let is : read bypass (state_of c.loop-i.self) ≡ Ok (true, state_of c.bypass.new.self) =
    search (rules, c.in_ok-bypass.ensures.0) in
    record {
      told =
          unary_goes_on (refuse c.args.too_great) (λ i. bypass) c.loop-i.i 32 _ _ _ c.loop-i-test.true is
          c.loop-i.invariant.told;
      live = c.in_ok-bypass.ensures.1;
    }

pub returns-clause-value : goal.returns-clause-value
returns-clause-value c = (
  unary_over (refuse c.args.too_great) (λ i. bypass) c.loop-i.i 32 _ _ c.loop-i-test.false c.loop-i.invariant.told,
  tt,
)
