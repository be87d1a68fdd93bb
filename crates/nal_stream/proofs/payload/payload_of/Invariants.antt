use Rattle.std.proofs.Common.{◌≡◌, map}
use Rattle.std.specs.Prelude.{slice_index, ◌&&◌, not, nat_le}
use Rattle.spec_nal_units.specs.Judged.{places, stands_at}
use Rattle.nal_stream.proofs.payload.payload_of.Given as goal

abbrev pub invariant-loop-i : goal.invariant-loop-i
invariant-loop-i l =
    l.payload.items ≡ map (slice_index l.unit) (places (λ i. nat_le 2 i && not (stands_at 3 l.unit i)) l.i)
