use Rattle.std.proofs.Common.{◌≡◌, ◌-◌, ◌≤◌}
use Rattle.spec_cabac.specs.Engine.{IsLive}
use Rattle.spec_cabac.specs.Bins.{read, times}
use Rattle.spec_residuals.specs.Levels.{greater1_flag, greater1_flags}
use Rattle.cabac_contexts.specs.Takes.{state_of}
use Rattle.residual_syntax.proofs.remaining.greater1_flags.Given as goal

abbrev pub invariant-loop-j : goal.invariant-loop-j
invariant-loop-j l = record {
  told : read (times l.j (l.most - l.j) (greater1_flag l.block l.set) l.flags) (state_of l.reader)
      ≡ read (greater1_flags l.block l.set l.count) (state_of l.fn.reader);
  live : IsLive l.reader.interval;
  context : l.flags.context ≤ 3;
}
