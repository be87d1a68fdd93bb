use Rattle.std.proofs.Common.{◌≡◌, ℕ, ◌+◌, rules, true, false, Ok, Err, subst}
use Rattle.spec_cabac.specs.SpecFormats.{give}
use Rattle.spec_cabac.specs.Bins.{data_end, read, decision}
use Rattle.spec_cabac.proofs.Prefix.{unary_goes_on, unary_stops, unary_ends, unary_over}
use Rattle.spec_residuals.specs.LastPosition.{prefix_context}
use Rattle.cabac_contexts.specs.Takes.{state_of}
use Rattle.residual_syntax.proofs.last_position.prefix.Goals as goal

pub returns-in_err-bin-clause-value : goal.returns-in_err-bin-clause-value
returns-in_err-bin-clause-value c =
    let is : read (decision (c.args.base + prefix_context c.args.block c.loop-i.i)) (state_of c.loop-i.reader)
    ≡ Err data_end =
    subst (λ (k : ℕ). read (decision (c.args.base + k)) (state_of c.loop-i.reader) ≡ Err data_end)
    c.prefix_context.ensures.value c.in_err-bin.ensures in
    rw c.from_residual.ensures (unary_ends (give _) (λ i. decision (c.args.base + prefix_context c.args.block i))
    c.loop-i.i _ _ data_end _ c.loop-i-test.true is c.loop-i.invariant.told)

pub returns-then-not-branch-clause-value : goal.returns-then-not-branch-clause-value
returns-then-not-branch-clause-value c =
    let is : read (decision (c.args.base + prefix_context c.args.block c.loop-i.i)) (state_of c.loop-i.reader)
    ≡ Ok (false, state_of c.bin.new.self) =
    search (rules, c.in_ok-bin.ensures.0, c.prefix_context.ensures.value) in (
      unary_stops (give _) (λ i. decision (c.args.base + prefix_context c.args.block i)) c.loop-i.i _ _ _ _
          c.loop-i-test.true is c.loop-i.invariant.told,
      c.in_ok-bin.ensures.1,
    )

pub loop-i-preserved : goal.loop-i-preserved
loop-i-preserved c =
    let is : read (decision (c.args.base + prefix_context c.args.block c.loop-i.i)) (state_of c.loop-i.reader)
    ≡ Ok (true, state_of c.bin.new.self) =
    search (rules, c.in_ok-bin.ensures.0, c.prefix_context.ensures.value) in
    record {
      told =
          unary_goes_on (give _) (λ i. decision (c.args.base + prefix_context c.args.block i)) c.loop-i.i _ _ _ _
          c.loop-i-test.true is c.loop-i.invariant.told;
      live = c.in_ok-bin.ensures.1;
    }

pub returns-clause-value : goal.returns-clause-value
returns-clause-value c = (
  unary_over (give _) (λ i. decision (c.args.base + prefix_context c.args.block i)) c.loop-i.i _ _ _
      c.loop-i-test.false c.loop-i.invariant.told,
  c.loop-i.invariant.live,
)
