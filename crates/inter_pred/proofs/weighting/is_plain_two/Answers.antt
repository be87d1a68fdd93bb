use Rattle.std.proofs.Common.{rules, ◌≡◌, ◌^◌, pos}
use Rattle.spec_inter_prediction.specs.Weighting.{IsWeights, weighted_two}
use Rattle.inter_pred.proofs.Plain.{plain_two}
use Rattle.inter_pred.proofs.weighting.is_plain_two.Goals as goal

pub returns-in-Explicit : goal.returns-in-Explicit
unfolding weighted_two
returns-in-Explicit c is p q =
    let w : IsWeights c.in-Explicit.weights = rw c.in-Explicit.is at c.requires in
    let d = c.in-Explicit.weights.log2_denominator in
    let one : c.in-Explicit.weights.list0.weight ≡ pos (2 ^ d) = search rules in
    let none : c.in-Explicit.weights.list0.offset ≡ pos 0 = search rules in
    let other : c.in-Explicit.weights.list1.weight ≡ pos (2 ^ d) = search rules in
    let nothing : c.in-Explicit.weights.list1.offset ≡ pos 0 = search rules in
    rw c.in-Explicit.is
    (plain_two d c.in-Explicit.weights.list0 c.in-Explicit.weights.list1 p q w.denominator one none other nothing)
