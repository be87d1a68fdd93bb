use Rattle.spec_nal_units.specs.Judged.{stands_at}
use Rattle.nal_stream.proofs.PlacesBelow.{places-rise}
use Rattle.nal_stream.proofs.payload.removed_of.Goals as goal

pub new-requires : goal.new-requires
new-requires c = record { in_order = rw c.loop-i.invariant (places-rise (stands_at 3 c.args.unit.now) c.loop-i.i) }
