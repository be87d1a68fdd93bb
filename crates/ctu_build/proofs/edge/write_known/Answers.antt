use Rattle.std.proofs.Common.{◌≡◌, ◌<◌, ◌+◌, ◌*◌, length, None, ap, sym, ◌∙◌, arith, ℕ, Option}
use Rattle.ctu_build.specs.Held.{held}
use Rattle.intra_pred.proofs.Substituting.{following_more, following_over}
use Rattle.spec_intra_prediction.specs.Neighbours.{beside}
use Rattle.spec_intra_prediction.specs.Substitution.{sample_or}
use Rattle.ctu_build.proofs.Edges.{beside_above, beside_count, beside_left}
use Rattle.ctu_build.proofs.edge.write_known.Goals as goal

pub left-preserved : goal.left-preserved
left-preserved c =
    let a = c.args in
    let f = held a.samples.now a.place.c in
    let p = a.place in
    let count = beside_count f a.n p.x p.y in
    let lt : c.left.k < length (beside f a.n p.x p.y) = omega (arith, count, c.left-test.true) in
    let room : c.left.k < length c.left.edge = omega (arith, c.left-test.true, c.left.auto.edge, c.requires.room) in
    following_more c.left.former c.left.k _ c.left.edge _ (beside f a.n p.x p.y) None lt room
    (c.sample_or-former.ensures
    ∙ ap (λ (s : Option ℕ). sample_or s c.left.former)
    (c.sample.ensures ∙ sym (beside_left f a.n p.x p.y c.left.k (omega (arith, c.left-test.true)))))
    c.left.invariant

pub above-preserved : goal.above-preserved
above-preserved c =
    let a = c.args in
    let f = held a.samples.now a.place.c in
    let p = a.place in
    let count = beside_count f a.n p.x p.y in
    let lt : c.above.k < length (beside f a.n p.x p.y) = omega (arith, count, c.above-test.true) in
    let room : c.above.k < length c.above.edge = omega (arith, c.above-test.true, c.above.auto.edge, c.requires.room) in
    following_more c.above.former c.above.k _ c.above.edge _ (beside f a.n p.x p.y) None lt room
    (c.sample_or-former-in-above.ensures
    ∙ ap (λ (s : Option ℕ). sample_or s c.above.former)
    (c.sample-in-above.ensures
    ∙ sym (beside_above f a.n p.x p.y c.above.k (omega (arith, c.above.auto.k)) (omega (arith, c.above-test.true)))))
    c.above.invariant

pub returns : goal.returns
returns c =
    let a = c.args in
    let f = held a.samples.now a.place.c in
    let p = a.place in
    let count = beside_count f a.n p.x p.y in
    let all : c.above.k ≡ 4 * a.n + 1 = omega (arith, c.above-test.false, c.above.auto.k-end) in
    rw all at
    (following_over c.above.former c.above.k c.above.edge _ _ (omega (arith, count, all)) c.above.invariant)
