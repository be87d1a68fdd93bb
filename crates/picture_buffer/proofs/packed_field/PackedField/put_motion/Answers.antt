use Rattle.std.proofs.Common.{refl}
use Rattle.picture_buffer.specs.Packed.{no_motion}
use Rattle.picture_buffer.proofs.Places.{put_at}
use Rattle.picture_buffer.proofs.packed_field.PackedField.put_motion.Goals as goal

pub returns-clause-places : goal.returns-clause-places
returns-clause-places c i j =
    rw (← c.self.view_is) (put_at c.self.inside.targets c.keep-index_0.new.targets
    c.keep-index_1.new.targets c.self.inside.count c.keep-index_0.result.1 c.self.inside.own c.put_own.new.own
    c.self.inside.places c.put_run.new.self _ c.args.motion _ i j c.self.invariant.0 c.put_own.ensures.sides
    (c.put_run.ensures.sides c.self.inside.places.across c.self.inside.places.down
    (record { columns = refl; rows = refl })) c.keep-index_0.ensures.more c.keep-index_0.ensures.same
    c.keep-index_1.ensures.same c.keep-index_0.ensures.some c.keep-index_0.ensures.inside
    (rw c.mv_of.ensures c.keep-index_0.ensures.value) (rw c.mv_of-2.ensures c.keep-index_1.ensures.value)
    (c.put_own.ensures.cells i j) (c.put_run.ensures.cells no_motion i j))
