use Rattle.std.proofs.Common.{◌≡◌, ◌-◌}
use Rattle.spec_cabac.specs.SpecFormats.{give}
use Rattle.spec_cabac.specs.Engine.{IsLive}
use Rattle.spec_cabac.specs.Bins.{read, unary, bypass, truncated}
use Rattle.cabac_contexts.specs.Takes.{state_of}
use Rattle.cabac_contexts.proofs.bin_reader.BinReader.truncated.Given as goal

abbrev pub invariant-loop-n : goal.invariant-loop-n
invariant-loop-n l = record {
  told : read (unary (give l.greatest) (λ i. bypass) l.n (l.greatest - l.n)) (state_of l.self)
      ≡ read (truncated (λ i. bypass) l.greatest) (state_of l.fn.self);
  live : IsLive l.self.interval;
}
