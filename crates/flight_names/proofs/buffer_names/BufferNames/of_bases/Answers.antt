use Rattle.flight_names.proofs.Named.{bases_more}
use Rattle.flight_names.proofs.buffer_names.BufferNames.of_bases.Goals as goal

pub loop-place-preserved : goal.loop-place-preserved
loop-place-preserved c =
    bases_more c.loop-place.place c.loop-place.names.items c.push.new.self.items c.loop-place.invariant
    c.in_ok-push.ensures.items
