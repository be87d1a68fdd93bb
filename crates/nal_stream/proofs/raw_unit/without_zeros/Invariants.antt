use Rattle.std.proofs.Common.{◌≡◌, ◌≤◌, true, drop, length}
use Rattle.spec_nal_units.specs.Units.{all_zero}
use Rattle.nal_stream.proofs.raw_unit.without_zeros.Given as goal

abbrev pub invariant-loop-len : goal.invariant-loop-len
invariant-loop-len l = (l.len ≤ length l.bytes) × (all_zero (drop l.len l.bytes) ≡ true)

abbrev pub decreases-loop-len : goal.decreases-loop-len
decreases-loop-len l = l.len
