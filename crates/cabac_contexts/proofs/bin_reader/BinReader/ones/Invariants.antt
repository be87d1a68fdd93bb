use Rattle.std.proofs.Common.{◌≡◌, ◌-◌}
use Rattle.spec_cabac.specs.SpecFormats.{refuse}
use Rattle.spec_cabac.specs.Engine.{IsLive}
use Rattle.spec_cabac.specs.Bins.{read, unary, bypass, ones}
use Rattle.cabac_contexts.specs.Takes.{state_of}
use Rattle.cabac_contexts.proofs.bin_reader.BinReader.ones.Given as goal

abbrev pub invariant-loop-i : goal.invariant-loop-i
invariant-loop-i l = record {
  told : read (unary (refuse l.too_great) (λ i. bypass) l.i (32 - l.i)) (state_of l.self)
      ≡ read (ones l.too_great) (state_of l.fn.self);
  live : IsLive l.self.interval;
}
