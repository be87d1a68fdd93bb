use Rattle.std.proofs.Common.{rules, ◌≢◌, ◌<◌, pos, arith, length, below_more, get_or-set_other, get_or-set_same}
use Rattle.std.proofs.lemmas.Int.{to_z-of_z}
use Rattle.std.proofs.lemmas.List.Elements.{All-from_get_or}
use mir.Val.{SFits}
use mir.Syntax.{w32}
use Rattle.spec_transforms.specs.Matrices.{at}
use Rattle.spec_transforms.specs.Transforms.{IsResidual}
use Rattle.residual_transform.proofs.skipping.skip.Goals as goal

pub loop-i-preserved : goal.loop-i-preserved
loop-i-preserved c =
    let f : SFits w32 c.skipped.result = search rules in
    let lt : c.loop-i.i < length c.loop-i.out = search rules in
    let g : SFits w32 (at c.args.d.now c.loop-i.i) = search rules in
    let v = rw (to_z-of_z w32 _ g) at c.skipped.ensures.value in
    record {
      told = below_more _ _
          (λ k h. let ne : k ≢ c.loop-i.i = omega arith in rw get_or-set_other (c.loop-i.invariant.told k h))
          (rw (get_or-set_same c.loop-i.out c.loop-i.i _ _ lt, to_z-of_z w32 _ f) v);
      small = below_more _ _
          (λ k h. let ne : k ≢ c.loop-i.i = omega arith in rw get_or-set_other (c.loop-i.invariant.small k h))
          (rw (get_or-set_same c.loop-i.out c.loop-i.i _ _ lt, to_z-of_z w32 _ f) c.skipped.ensures.small);
    }

pub returns-clause-small : goal.returns-clause-small
returns-clause-small c =
    All-from_get_or IsResidual c.loop-i.out (pos 0) (λ k h. c.loop-i.invariant.small k (search rules))
