use Rattle.std.proofs.Common.{◌<◌, ◌≤◌, length, None, sym, ◌∙◌, arith}
use Rattle.ctu_build.specs.Held.{held}
use Rattle.intra_pred.proofs.Substituting.{first_here, first_later, first_over}
use Rattle.spec_intra_prediction.specs.Neighbours.{beside}
use Rattle.ctu_build.proofs.Edges.{beside_at, beside_count}
use Rattle.ctu_build.proofs.edge.first_known.Goals as goal

pub returns-in-Some : goal.returns-in-Some
returns-in-Some c =
    let a = c.args in
    let f = held a.samples.now a.place.c in
    let count = beside_count f a.n a.place.x a.place.y in
    let lt : c.loop-k.k < length (beside f a.n a.place.x a.place.y) = omega (arith, count, c.loop-k-test.true) in
    sym (first_here a.otherwise c.loop-k.k c.in-Some.value _ None lt
    (beside_at f a.n a.place.x a.place.y c.loop-k.k (omega (arith, c.loop-k-test.true)) ∙ sym c.neighbour.ensures
    ∙ c.in-Some.is))
    ∙ c.loop-k.invariant

pub loop-k-preserved : goal.loop-k-preserved
loop-k-preserved c =
    let a = c.args in
    let f = held a.samples.now a.place.c in
    let count = beside_count f a.n a.place.x a.place.y in
    let lt : c.loop-k.k < length (beside f a.n a.place.x a.place.y) = omega (arith, count, c.loop-k-test.true) in
    sym (first_later a.otherwise c.loop-k.k _ None lt
    (beside_at f a.n a.place.x a.place.y c.loop-k.k (omega (arith, c.loop-k-test.true)) ∙ sym c.neighbour.ensures
    ∙ c.in-None.is))
    ∙ c.loop-k.invariant

pub returns : goal.returns
returns c =
    let a = c.args in
    let f = held a.samples.now a.place.c in
    let count = beside_count f a.n a.place.x a.place.y in
    let le : length (beside f a.n a.place.x a.place.y) ≤ c.loop-k.k = omega (arith, count, c.loop-k-test.false) in
    sym (first_over a.otherwise c.loop-k.k _ le) ∙ c.loop-k.invariant
