use Rattle.std.proofs.Common.{refl, rules, ◌∙◌}
use Rattle.picture_buffer.specs.Planes.{samples_of}
use Rattle.yuv_writer.proofs.Writes.{none_written, on_err, rows_cut, rows_written}
use Rattle.yuv_writer.proofs.pieces.write_plane.Goals as goal

pub loop-done-init : goal.loop-done-init
loop-done-init g c = record {
  within = search rules;
  room = c.requires.room;
  gained = none_written (g.O.Sink.contents c.args.out.now) (samples_of c.args.planes.now) c.args.c c.args.window.now;
  quiet = refl;
}

pub returns-in_err-write_piece-clause-front : goal.returns-in_err-write_piece-clause-front
returns-in_err-write_piece-clause-front g c = on_err c.from_residual.result
    (rows_cut _ _ _ (samples_of c.args.planes.now) c.args.c c.args.window.now c.below.result c.loop-done.done
    c.min-count.result c.below.ensures (search rules) c.loop-done.invariant.gained c.in_err-write_piece.ensures.front)

pub loop-done-preserved : goal.loop-done-preserved
loop-done-preserved g c = record {
  within = search rules;
  room = search rules;
  gained =
      rows_written _ _ _ (samples_of c.args.planes.now) c.args.c c.args.window.now c.below.result c.loop-done.done
      c.min-count.result c.below.ensures c.loop-done.invariant.gained c.in_ok-write_piece.ensures.gained;
  quiet = c.in_ok-write_piece.ensures.quiet ∙ c.loop-done.invariant.quiet;
}
