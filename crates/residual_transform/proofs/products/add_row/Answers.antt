use Rattle.std.proofs.Common.{rules, ◌≢◌, ◌<◌, ◌+ℤ◌, ◌*ℤ◌, ◌∙◌, ap, ℤ, arith, length, length-set, below_more}
use Rattle.std.proofs.Common.{get_or-set_other, get_or-set_same}
use Rattle.std.proofs.lemmas.Int.{to_z-of_z}
use mir.Val.{SFits, to_z, of_z}
use mir.Syntax.{w32}
use Rattle.spec_transforms.specs.Matrices.{at}
use Rattle.residual_transform.proofs.products.add_row.Goals as goal

pub loop-j-preserved : goal.loop-j-preserved
loop-j-preserved b c =
    let f : SFits w32 c.with_product.result = search rules in
    let g : SFits w32 (at c.loop-j.sums c.loop-j.j) = search rules in
    let h : SFits w32 (at c.args.row.now c.loop-j.j) = search rules in
    let lt : c.loop-j.j < length c.loop-j.sums =
    omega (arith, c.loop-j.invariant.long, c.loop-j-test.true) in
    let added = rw (to_z-of_z w32 _ g, to_z-of_z w32 _ h) at c.with_product.ensures in
    let was = c.loop-j.invariant.rest c.loop-j.j (omega arith) in
    record {
      done = below_more _ _
          (λ i k. let ne : i ≢ c.loop-j.j = omega arith in rw get_or-set_other (c.loop-j.invariant.done i k))
          (rw (get_or-set_same c.loop-j.sums c.loop-j.j _ _ lt, to_z-of_z w32 _ f)
          (added ∙ ap (λ (z : ℤ). z +ℤ at c.args.row.now c.loop-j.j *ℤ to_z w32 (of_z w32 c.args.coefficient)) was));
      rest =
          λ i k. let ne : i ≢ c.loop-j.j = omega arith in rw get_or-set_other (c.loop-j.invariant.rest i (omega arith));
      long = simp length-set c.loop-j.invariant.long;
    }
