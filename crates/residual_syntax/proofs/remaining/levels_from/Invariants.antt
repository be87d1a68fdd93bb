use Rattle.std.proofs.Common.{◌≡◌, ◌+◌, ◌-◌, ◌*◌, ◌≤◌, length}
use Rattle.spec_cabac.specs.Engine.{IsLive}
use Rattle.spec_cabac.specs.Bins.{read, times}
use Rattle.spec_residuals.specs.Levels.{level_at, first_state}
use Rattle.cabac_contexts.specs.Takes.{state_of}
use Rattle.residual_syntax.proofs.remaining.levels_from.Given as goal

abbrev pub invariant-loop-j : goal.invariant-loop-j
invariant-loop-j l = record {
  told : read (times l.j (l.count - l.j) (level_at l.block l.sub l.indices l.signs) (l.state, l.levels))
      (state_of l.reader)
      ≡ read
      (times 0 (length l.indices) (level_at l.block l.sub l.indices l.signs) (first_state, l.fn.levels))
      (state_of l.fn.reader);
  live : IsLive l.reader.interval;
  rice : l.state.rice ≤ 4;
  sum : l.state.sum ≤ 32768 * l.j;
  room : length l.levels.levels ≡ length l.fn.levels.levels + l.j;
}
