use Rattle.std.proofs.Common.{◌≤◌, length, arith, List, ℕ, sym, ap, ◌∙◌}
use Rattle.spec_intra_prediction.specs.Prediction.{predicted_from}
use Rattle.std.proofs.lemmas.List.{length-take-le}
use Rattle.intra_pred.proofs.Sizes.{small}
use Rattle.intra_pred.proofs.Smoothed.{filtered_is, unfiltered_is}
use Rattle.intra_pred.proofs.prediction.predict.Goals as goal

pub returns-then-is_filtered-clause-value : goal.returns-then-is_filtered-clause-value
returns-then-is_filtered-clause-value c x y h k =
    let a = c.args in
    c.predict_from.ensures.value x y h k
    ∙ ap (λ (p : List ℕ). predicted_from a.c a.log2 a.mode a.depth p x y)
    (c.filter.ensures
    ∙ filtered_is a.c a.log2 a.mode a.strong a.depth a.edge.now (sym c.is_filtered.ensures ∙ c.if-is_filtered.true))

pub returns-else-is_filtered-clause-value : goal.returns-else-is_filtered-clause-value
returns-else-is_filtered-clause-value c x y h k =
    let a = c.args in
    c.predict_from-else-is_filtered.ensures.value x y h k
    ∙ ap (λ (p : List ℕ). predicted_from a.c a.log2 a.mode a.depth p x y)
    (unfiltered_is a.c a.log2 a.mode a.strong a.depth a.edge.now (sym c.is_filtered.ensures ∙ c.if-is_filtered.false))

pub slice_bounds-predict_from-end : goal.slice_bounds-predict_from-end
slice_bounds-predict_from-end c =
    let few = small c.args.log2 c.requires.log2.1 in
    let room : length c.args.edge.now ≤ length c.filter.new.smooth =
    omega (arith, c.requires.edge, c.filter.array_long) in
    sym (length-take-le (length c.args.edge.now) c.filter.new.smooth room)

pub predict_from-requires-clause-edge : goal.predict_from-requires-clause-edge
predict_from-requires-clause-edge c =
    let few = small c.args.log2 c.requires.log2.1 in
    let room : length c.args.edge.now ≤ length c.filter.new.smooth =
    omega (arith, c.requires.edge, c.filter.array_long) in
    length-take-le (length c.args.edge.now) c.filter.new.smooth room ∙ c.requires.edge
