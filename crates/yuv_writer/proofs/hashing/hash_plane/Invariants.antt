-- The rows so far are hashed.
use Rattle.std.proofs.Common.{◌≡◌, ◌-◌, ◌≤◌, length}
use Rattle.picture_buffer.specs.Planes.{samples_of}
use Rattle.spec_picture_build.specs.Output.{plane_bytes}
use Rattle.yuv_writer.specs.Parts.{upper}
use Rattle.yuv_writer.proofs.HashedRows.{Adds}
use Rattle.yuv_writer.proofs.hashing.hash_plane.Given as goal

abbrev pub invariant-loop-done : goal.invariant-loop-done
invariant-loop-done l = record {
  within : l.done ≤ l.window.height;
  room : length l.buffer ≡ 65536;
  held : Adds l.fn.hash l.hash (plane_bytes (samples_of l.planes) l.c (upper l.window l.done));
}

abbrev pub decreases-loop-done : goal.decreases-loop-done
decreases-loop-done l = l.window.height - l.done
