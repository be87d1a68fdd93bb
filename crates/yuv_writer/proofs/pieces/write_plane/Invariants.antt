use Rattle.std.proofs.Common.{◌≡◌, ◌-◌, ◌≤◌, length}
use Rattle.hv_io.specs.Streams.{Gains}
use Rattle.picture_buffer.specs.Planes.{samples_of}
use Rattle.spec_picture_build.specs.Output.{plane_bytes}
use Rattle.yuv_writer.specs.Parts.{upper}
use Rattle.yuv_writer.proofs.pieces.write_plane.Given as goal

abbrev pub invariant-loop-done : goal.invariant-loop-done
invariant-loop-done g l = record {
  within : l.done ≤ l.window.height;
  room : length l.buffer ≡ 65536;
  gained : Gains (g.O.Sink.contents l.fn.out) (g.O.Sink.contents l.out)
      (plane_bytes (samples_of l.planes) l.c (upper l.window l.done));
  quiet : g.O.Sink.faults l.out ≡ g.O.Sink.faults l.fn.out;
}

abbrev pub decreases-loop-done : goal.decreases-loop-done
decreases-loop-done g l = l.window.height - l.done
