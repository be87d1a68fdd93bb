use Rattle.std.proofs.Common.{◌≡◌, ◌+◌, ◌-◌, ◌*◌, ◌≤◌, length}
use Rattle.spec_cabac.specs.Engine.{IsLive}
use Rattle.spec_cabac.specs.Bins.{read, times}
use Rattle.spec_residuals.specs.Residual.{sub_block, no_progress, no_levels}
use Rattle.cabac_contexts.specs.Takes.{state_of}
use Rattle.residual_syntax.proofs.reading.sub_blocks.Given as goal

abbrev pub invariant-loop-k : goal.invariant-loop-k
invariant-loop-k l = record {
  told : read
      (times l.k (l.last + 1 - l.k) (λ k. sub_block l.block l.last l.position (l.last - k)) (l.progress, l.levels))
      (state_of l.reader)
      ≡ read (times 0 (l.last + 1) (λ k. sub_block l.block l.last l.position (l.last - k))
      (no_progress, no_levels l.transform_skip))
      (state_of l.fn.reader);
  live : IsLive l.reader.interval;
  count : length l.levels.levels ≤ 16 * l.k;
}
