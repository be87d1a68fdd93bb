use Rattle.std.proofs.Common.{◌≡◌, ◌-◌}
use Rattle.residual_syntax.specs.SpecFormats.{give}
use Rattle.residual_syntax.specs.SpecCabac.{IsLive}
use Rattle.residual_syntax.specs.SpecCabac.{read, unary, truncated}
use Rattle.spec_slice_data.specs.Quantization.{delta_bin}
use Rattle.residual_syntax.specs.CabacContexts.{state_of}
use Rattle.transform_tree.proofs.quantization.delta_prefix.Given as goal

abbrev pub invariant-loop-i : goal.invariant-loop-i
invariant-loop-i l = record {
  told : read (unary (give 5) delta_bin l.i (5 - l.i)) (state_of l.reader)
      ≡ read (truncated delta_bin 5) (state_of l.fn.reader);
  live : IsLive l.reader.interval;
}
