use Rattle.std.proofs.Common.{rules}
use Rattle.picture_buffer.specs.Planes.{samples_of, plane_width}
use Rattle.spec_picture_build.specs.Output.{Window}
use Rattle.yuv_writer.proofs.Rows.{row_filled}
use Rattle.yuv_writer.proofs.gathering.lay_row.Goals as goal

pub returns : goal.returns
returns c =
    let w : Window = record {
      left = c.window.inside.left;
      top = c.window.inside.top;
      width = c.window.inside.width;
      height = c.window.inside.height;
      two_bytes = c.window.inside.two_bytes;
    } in
    rw (← c.window.view_is) (row_filled (samples_of c.args.planes.now) c.args.c w c.args.row _
    (plane_width c.args.planes.now c.args.c) c.row-samples.result.now _ c.row-samples.ensures.count (search rules)
    (search rules) c.lay_samples.ensures c.row-samples.ensures.samples)
