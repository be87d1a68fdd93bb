use Rattle.std.proofs.Common.{◌≡◌, ◌+◌, ℕ, min, ap, ◌∙◌, arith}
use Rattle.std.proofs.lemmas.Simd.{length-put_chunk}
use Rattle.inter_pred.specs.Passes.{at}
use Rattle.picture_build.proofs.Eights.{eights_more}
use Rattle.picture_build.proofs.inside.copy_eights.Goals as goal

pub loop-k-preserved : goal.loop-k-preserved
loop-k-preserved g c =
    let a = c.min-place.result in (
      length-put_chunk a c.loop-k.out c.eight.result ∙ c.loop-k.invariant.0,
      eights_more (λ j. min (at c.args.row.now (c.args.from + j)) c.args.greatest) _ c.loop-k.k g.row.WIDTH a _
          c.requires.width c.loop-k-test.true c.loop-k.invariant.0 c.loop-k.invariant.1 c.min-place.ensures
          c.eight.ensures.long (λ i lt.
          let e : c.args.from + a + i ≡ c.args.from + (a + i) = omega arith in
          c.eight.ensures.value i lt ∙ ap (λ (n : ℕ). min (at c.args.row.now n) c.args.greatest) e),
    )
