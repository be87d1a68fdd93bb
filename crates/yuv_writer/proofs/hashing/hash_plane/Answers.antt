use Rattle.std.proofs.Common.{rules}
use Rattle.picture_buffer.specs.Planes.{samples_of}
use Rattle.yuv_writer.proofs.HashedRows.{none_held, rows_held}
use Rattle.yuv_writer.proofs.hashing.hash_plane.Goals as goal

pub loop-done-init : goal.loop-done-init
loop-done-init c = record {
  within = search rules;
  room = c.requires.room;
  held = none_held c.args.hash.now (samples_of c.args.planes.now) c.args.c c.args.window.now;
}

pub loop-done-preserved : goal.loop-done-preserved
loop-done-preserved c = record {
  within = search rules;
  room = search rules;
  held =
      rows_held c.args.hash.now c.loop-done.hash c.hash_piece.new.hash (samples_of c.args.planes.now) c.args.c
      c.args.window.now c.below.result c.loop-done.done c.min-count.result c.below.ensures
      c.loop-done.invariant.held c.hash_piece.ensures.held;
}
