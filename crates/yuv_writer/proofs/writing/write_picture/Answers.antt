use Rattle.std.proofs.lemmas.Result.{on_err_weaker}
use Rattle.picture_buffer.specs.Planes.{samples_of}
use Rattle.yuv_writer.proofs.Writes.{cut_in_cb, cut_in_cr, on_err}
use Rattle.yuv_writer.proofs.writing.write_picture.Goals as goal

pub returns-in_err-write_plane-2-clause-front : goal.returns-in_err-write_plane-2-clause-front
returns-in_err-write_plane-2-clause-front g c = on_err c.from_residual-in_err-write_plane-2.result
    (rw (← c.format-format.ensures.value, ← c.planes-planes.ensures.value)
    (cut_in_cb _ _ _ (samples_of c.planes-planes.result.now) c.format-format.result.now c.window_of.result
    c.window_of-2.result c.window_of.ensures.value c.window_of-2.ensures.value c.in_ok-write_plane.ensures.gained
    c.in_err-write_plane-2.ensures.front))

pub returns-clause-front : goal.returns-clause-front
returns-clause-front g c = on_err_weaker c.write_plane-3.result
    (λ cut. rw (← c.format-format.ensures.value, ← c.planes-planes.ensures.value)
    (cut_in_cr _ _ _ _ (samples_of c.planes-planes.result.now) c.format-format.result.now c.window_of.result
    c.window_of-2.result c.window_of-3.result c.window_of.ensures.value c.window_of-2.ensures.value
    c.window_of-3.ensures.value c.in_ok-write_plane.ensures.gained c.in_ok-write_plane-2.ensures.gained cut))
    c.write_plane-3.ensures.front
