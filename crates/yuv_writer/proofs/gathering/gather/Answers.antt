use Rattle.std.proofs.Common.{ℕ, ◌*◌, refl, rules, ap, ◌∙◌, arith}
use Rattle.picture_buffer.specs.Planes.{samples_of}
use Rattle.yuv_writer.proofs.Rows.{gathered_count, gathered_more, gathered_none}
use Rattle.yuv_writer.proofs.gathering.gather.Goals as goal

pub loop-row-init : goal.loop-row-init
loop-row-init c = record {
  count = refl;
  told = gathered_none (samples_of c.args.planes.now) c.args.c c.args.window.now c.args.bytes.now;
}

pub loop-row-preserved : goal.loop-row-preserved
loop-row-preserved c =
    let place = ap (λ (n : ℕ). n * c.loop-row.row) c.row_size-row_size.ensures.value in
    let width = c.row_size-row_size.ensures.value in record {
      count =
          gathered_count (samples_of c.args.planes.now) c.args.c c.args.window.now c.loop-row.row _ _ c.loop-row.bytes
          c.lay_row.new.bytes place (omega (arith, width)) (search rules) (search rules) c.lay_row.ensures
          ∙ c.loop-row.invariant.count;
      told =
          gathered_more (samples_of c.args.planes.now) c.args.c c.args.window.now c.loop-row.row _ _ c.loop-row.bytes
          c.lay_row.new.bytes place (search rules) (search rules) c.loop-row.invariant.told c.lay_row.ensures;
    }
