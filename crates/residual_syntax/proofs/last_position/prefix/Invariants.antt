use Rattle.std.proofs.Common.{◌≡◌, ◌+◌, ◌-◌}
use Rattle.spec_cabac.specs.SpecFormats.{give}
use Rattle.spec_cabac.specs.Engine.{IsLive}
use Rattle.spec_cabac.specs.Bins.{read, unary, decision}
use Rattle.spec_residuals.specs.LastPosition.{prefix_context, last_prefix}
use Rattle.cabac_contexts.specs.Takes.{state_of}
use Rattle.residual_syntax.proofs.last_position.prefix.Given as goal

abbrev pub invariant-loop-i : goal.invariant-loop-i
invariant-loop-i l = record {
  told : read (unary (give l.most) (λ i. decision (l.base + prefix_context l.block i)) l.i (l.most - l.i))
      (state_of l.reader)
      ≡ read (last_prefix l.base l.block) (state_of l.fn.reader);
  live : IsLive l.reader.interval;
}
