use Rattle.std.proofs.Common.{rules, ◌≢◌, ◌+◌, ◌<◌, arith, length, length-set, below_more, get_or-set_other}
use Rattle.std.proofs.Common.{get_or-set_same}
use Rattle.std.proofs.lemmas.Int.{to_z-of_z}
use Rattle.std.proofs.lemmas.List.Elements.{All-set}
use mir.Val.{SFits}
use mir.Syntax.{w32}
use Rattle.spec_transforms.specs.Matrices.{at}
use Rattle.spec_transforms.specs.Scaling.{Is16}
use Rattle.residual_transform.proofs.stages.store_held.Goals as goal

pub loop-j-preserved : goal.loop-j-preserved
loop-j-preserved b c =
    let f : SFits w32 c.held.result = search rules in
    let lt : c.args.start + c.loop-j.j < length c.loop-j.out =
    omega (arith, c.loop-j.invariant.long, c.loop-j-test.true, c.requires.room) in
    let g : SFits w32 (at c.args.sums.now c.loop-j.j) = search rules in
    let stored = rw (to_z-of_z w32 _ g) at c.held.ensures.value in
    record {
      here = below_more _ _
          (λ k h. let ne : c.args.start + k ≢ c.args.start + c.loop-j.j = omega arith in
          rw get_or-set_other (c.loop-j.invariant.here k h))
          (rw (get_or-set_same c.loop-j.out (c.args.start + c.loop-j.j) _ _ lt, to_z-of_z w32 _ f) stored);
      before = λ i h. let ne : i ≢ c.args.start + c.loop-j.j = omega arith in
          rw get_or-set_other (c.loop-j.invariant.before i h);
      long = simp length-set c.loop-j.invariant.long;
      small =
          All-set Is16 c.loop-j.out (c.args.start + c.loop-j.j) _ (rw (to_z-of_z w32 _ f) c.held.ensures.small)
          c.loop-j.invariant.small;
    }
