use Rattle.std.proofs.Common.{◌≡◌, ◌+◌, ◌-◌, ◌<◌, ◌≤◌, length, All}
use Rattle.spec_cabac.specs.Engine.{IsLive}
use Rattle.spec_cabac.specs.Bins.{read, times}
use Rattle.spec_residuals.specs.Significance.{sig_coeff, sig_coeffs}
use Rattle.cabac_contexts.specs.Takes.{state_of}
use Rattle.residual_syntax.proofs.significance.sig_coeffs.Given as goal

abbrev pub invariant-loop-i : goal.invariant-loop-i
invariant-loop-i l = record {
  told : read (times l.i (l.from - l.i) (λ i. sig_coeff l.block l.sub l.flagged (l.from - 1 - i)) l.indices)
      (state_of l.reader)
      ≡ read (sig_coeffs l.block l.sub l.flagged l.from l.fn.indices) (state_of l.fn.reader);
  live : IsLive l.reader.interval;
  room : length l.indices ≤ length l.fn.indices + l.i;
  small : All (λ n. n < 16) l.indices;
}
