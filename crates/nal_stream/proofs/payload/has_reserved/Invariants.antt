use Rattle.std.proofs.Common.{◌≡◌, []}
use Rattle.spec_nal_units.specs.Judged.{places, stands_at}
use Rattle.nal_stream.proofs.payload.has_reserved.Given as goal

abbrev pub invariant-loop-i : goal.invariant-loop-i
invariant-loop-i l = places (stands_at 2 l.unit) l.i ≡ []
