use Rattle.std.proofs.Common.{rules, ◌≡◌, ◌^◌, pos}
use Rattle.spec_inter_prediction.specs.Weighting.{IsWeights, weighted_one}
use Rattle.inter_pred.proofs.Plain.{plain_one}
use Rattle.inter_pred.proofs.weighting.is_plain_one.Goals as goal

pub returns-in-Explicit : goal.returns-in-Explicit
unfolding weighted_one
returns-in-Explicit c is p =
    let w : IsWeights c.in-Explicit.weights = rw c.in-Explicit.is at c.requires in
    let d = c.in-Explicit.weights.log2_denominator in
    let one : c.weight_of.result.weight ≡ pos (2 ^ d) = search rules in
    let none : c.weight_of.result.offset ≡ pos 0 = search rules in
    rw (c.in-Explicit.is, ← c.weight_of.ensures.value) (plain_one d c.weight_of.result p w.denominator one none)
