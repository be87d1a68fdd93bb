use Rattle.std.proofs.Common.{◌≡◌}
use Rattle.spec_nal_units.specs.Judged.{places, stands_at}
use Rattle.nal_stream.proofs.payload.removed_of.Given as goal

abbrev pub invariant-loop-i : goal.invariant-loop-i
invariant-loop-i l = l.removed.items ≡ places (stands_at 3 l.unit) l.i
