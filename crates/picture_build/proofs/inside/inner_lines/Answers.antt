use Rattle.std.proofs.Common.{◌<◌, ◌≤◌, ◌+◌, pos, ◌+ℤ◌, arith}
use Rattle.inter_pred.proofs.Laying.{line_laid}
use Rattle.picture_buffer.specs.Planes.{plane_height, plane_width}
use Rattle.picture_build.specs.Referring.{held_sample}
use Rattle.picture_build.proofs.InnerRows.{inner_sample, row_laid}
use Rattle.picture_build.proofs.inside.inner_lines.Goals as goal

pub loop-j-preserved : goal.loop-j-preserved
loop-j-preserved g c =
    let a = c.args in
    let r = c.requires in
    let j = c.loop-j.j in
    let wide : a.first.0 + g.row.WIDTH ≤ plane_width a.planes.now a.c = omega (arith, r.size.0, r.columns) in
    let low : a.first.1 + j < plane_height a.planes.now a.c = omega (arith, r.lines) in
    record {
      value = λ i k h m. line_laid g.row.WIDTH j i k c.loop-j.out c.inner_line.new.out
          (λ i j. held_sample a.planes.now a.c a.greatest (a.from.x +ℤ pos i) (a.from.y +ℤ pos j))
          (omega (arith, r.size.0, h)) (omega (arith, r.width)) m (λ q. row_laid a.planes.now a.c a.greatest a.first.0
          a.first.1 g.row.WIDTH j a.from.x a.from.y _ _ _ r.first.0 r.first.1 wide low
          (λ i lt. c.row-row.ensures.samples i lt)
          q (c.inner_line.ensures.value q))
          (λ i k h m. c.loop-j.invariant.value i k (omega (arith, r.size.0, h)) m);
      bytes = λ small old. c.inner_line.ensures.bytes (λ k lt.
          let s = small (a.from.x +ℤ pos k) (a.from.y +ℤ pos j) in
          rw (inner_sample a.planes.now a.c a.greatest a.first.0 a.first.1 k j _ a.from.x a.from.y r.first.0 r.first.1
          (omega (arith, lt, wide)) low (c.row-row.ensures.samples (a.first.0 + k) (omega (arith, lt, wide)))) s)
          (c.loop-j.invariant.bytes small old);
    }
