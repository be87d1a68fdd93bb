use Rattle.std.proofs.Common.{◌≡◌, ◌*◌, length, take}
use Rattle.picture_buffer.specs.Planes.{samples_of}
use Rattle.spec_picture_build.specs.Output.{plane_bytes}
use Rattle.yuv_writer.specs.Parts.{upper, row_size}
use Rattle.yuv_writer.proofs.gathering.gather.Given as goal

abbrev pub invariant-loop-row : goal.invariant-loop-row
invariant-loop-row l = record {
  count : length l.bytes ≡ length l.fn.bytes;
  told : take (row_size l.window * l.row) l.bytes ≡ plane_bytes (samples_of l.planes) l.c (upper l.window l.row);
}
