use Rattle.std.proofs.Common.{◌≡◌, ◌<◌, ℕ, ◌+◌, false, get_or, length, length-set, pos, arith}
use Rattle.std.proofs.lemmas.Int.{ints, to_z-of_z}
use mir.Val.{SFits}
use mir.Syntax.{w32}
use Rattle.spec_transforms.specs.Matrices.{at}
use Rattle.ctu_build.specs.Held.{added}
use Rattle.ctu_build.proofs.Writing.{sums_at, sums_more}
use Rattle.ctu_build.proofs.lines.add_line.Goals as goal

pub loop-k-preserved : goal.loop-k-preserved
loop-k-preserved g c =
    let a = c.args in
    let v = c.requires.residuals (a.line.from + c.loop-k.k) (pos 0)
    (omega (arith, c.requires.enough, c.loop-k-test.true)) in
    let f : SFits w32 (at a.residuals.now (a.line.from + c.loop-k.k)) = omega (arith, ints, v) in
    record {
      told = sums_more c.loop-k.k c.added.result c.loop-k.sums
          (λ j. added a.depth (get_or a.known.now (a.line.first + j) false) (at a.residuals.now (a.line.from + j))
          (get_or a.values.now (a.line.first + j) 0))
          (omega (arith, c.loop-k-test.true, c.loop-k.invariant.long)) (rw (to_z-of_z w32 _ f) at c.added.ensures)
          c.loop-k.invariant.told;
      long = simp length-set c.loop-k.invariant.long;
    }

pub returns : goal.returns
returns g c =
    let a = c.args in
    let all : c.loop-k.k ≡ g.row.N = omega (arith, c.loop-k-test.false, c.loop-k.auto.k-end) in
    λ q. sums_at a.line.first g.row.N q _ _ c.loop-k.sums
    (λ p j. added a.depth (get_or a.known.now p false) (at a.residuals.now (a.line.from + j)) (get_or a.values.now p 0))
    (λ j lt. c.loop-k.invariant.told j (omega (arith, all, lt))) (c.lay_line.ensures q)
