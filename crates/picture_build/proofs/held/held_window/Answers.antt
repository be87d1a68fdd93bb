use Rattle.std.proofs.Common.{◌≡◌, pos, ◌+ℤ◌, arith}
use Rattle.std.proofs.lemmas.Int.{ints, to_z-of_z}
use mir.Val.{to_z, of_z}
use mir.Syntax.{w32}
use Rattle.inter_pred.proofs.Laying.{line_laid}
use Rattle.picture_build.specs.Referring.{held_sample}
use Rattle.picture_build.proofs.held.held_window.Goals as goal

pub loop-j-preserved : goal.loop-j-preserved
loop-j-preserved c =
    let e : to_z w32 (of_z w32 (to_z w32 (of_z w32 c.args.from.y) +ℤ to_z w32 c.loop-j.j))
    ≡ to_z w32 (of_z w32 c.args.from.y) +ℤ pos c.loop-j.j = omega (arith, ints) in
    record {
      value = λ i j h k. line_laid c.args.from.width c.loop-j.j i j c.loop-j.out c.lay_row.new.out
          (λ i j. held_sample c.args.planes.now c.args.c c.args.greatest (c.args.from.x +ℤ pos i)
          (c.args.from.y +ℤ pos j))
          h (omega arith) k (λ q. let t = c.lay_row.ensures.value q in grind (arith, to_z-of_z, e, t))
          c.loop-j.invariant.value;
      bytes = λ small old. c.lay_row.ensures.bytes small (c.loop-j.invariant.bytes small old);
    }
