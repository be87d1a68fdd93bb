use Rattle.std.proofs.Common.{◌≡◌, ◌<◌, List, arith, ap, ◌∙◌, get_or, length}
use Rattle.std.proofs.lemmas.List.{get_or_default}
use Rattle.flight_plan.specs.Flight.{PictureRows, no_picture, picture_units, tree_units}
use Rattle.board_core.proofs.Units.{past_tree}
use Rattle.board_core.proofs.event_needs.place_of.Goals as goal

pub returns-then-within-units-clause-none : goal.returns-then-within-units-clause-none
returns-then-within-units-clause-none c _ =
    let ps = c.args.plan.now.pictures in
    let k = c.loop-picture.picture in
    let items = c.pictures-found-items.result.now in
    let same : items ≡ ps = c.pictures-found-items.ensures.value in
    let here : k < length items = c.loop-picture-test.true in
    let count = ap (λ (xs : List PictureRows). length xs) same in
    let at : c.found-item.result ≡ get_or ps k no_picture =
    c.found-item.is
    ∙ (get_or_default items k c.found-item.result no_picture here
    ∙ ap (λ (xs : List PictureRows). get_or xs k no_picture) same) in
    let tree = ap tree_units at in
    let units = ap picture_units at in
    past_tree ps c.args.unit k (omega (arith, here, count))
    (omega (arith, c.loop-picture.invariant, tree, c.tree_units.ensures.value, c.if-within-tree_units.false))
    (omega (arith, c.loop-picture.invariant, units, c.units.ensures.value, c.if-within-units.true))
