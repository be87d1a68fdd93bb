use Rattle.picture_buffer.specs.Planes.{samples_of}
use Rattle.yuv_writer.proofs.HashedRows.{picture_held}
use Rattle.yuv_writer.proofs.hashing.picture_md5.Goals as goal

pub returns : goal.returns
returns c =
    rw (← c.format-format.ensures.value, ← c.planes-planes.ensures.value)
    (c.finalize.ensures _ (picture_held c.new-hash.result c.hash_plane.new.hash c.hash_plane-2.new.hash
    c.hash_plane-3.new.hash (samples_of c.planes-planes.result.now) c.format-format.result.now c.window_of.result
    c.window_of-2.result c.window_of-3.result c.window_of.ensures.value c.window_of-2.ensures.value
    c.window_of-3.ensures.value c.new-hash.ensures c.hash_plane.ensures.held c.hash_plane-2.ensures.held
    c.hash_plane-3.ensures.held))
