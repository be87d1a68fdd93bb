use Rattle.std.proofs.Common.{◌≡◌, ℕ, ◌-◌, ◌<◌, ◌≤◌, false, drop, length}
use Rattle.spec_nal_units.specs.Units.{ends_unit}
use Rattle.nal_stream.proofs.raw_unit.end_of_unit.Given as goal

abbrev pub invariant-loop-at : goal.invariant-loop-at
invariant-loop-at l = (l.at ≤ length l.bytes) × ((j : ℕ) → j < l.at → ends_unit (drop j l.bytes) ≡ false)

abbrev pub decreases-loop-at : goal.decreases-loop-at
decreases-loop-at l = length l.bytes - l.at
