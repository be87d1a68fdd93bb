use Rattle.std.proofs.Common.{List, subst}
use Rattle.std.specs.List.{All}
use Rattle.ctu_records.specs.declared.item.Item.{Item}
use Rattle.spec_motion.specs.Units.{IsPlacedItem}
use Rattle.boundary_strengths.specs.Held.{AreMarked}
use Rattle.boundary_strengths.proofs.places.unit_places.Goals as goal

pub returns-then-is_intra : goal.returns-then-is_intra
returns-then-is_intra g c = λ each small x y d few low.
    let sides = c.args.sides.now in
    let all =
    subst
    (λ (xs : List Item). All IsPlacedItem xs → AreMarked sides.pcm_loop_filter_disabled xs c.marks_of-marks.result)
    c.items.ensures c.marks_of-marks.ensures in
    c.fill_intra.ensures (all each) small (g.V.PlaceMotions.motion_at c.args.view.now)
    (c.is_intra.ensures.still c.if-is_intra.true) x y d few low

pub returns-else-is_intra : goal.returns-else-is_intra
returns-else-is_intra g c = λ each small x y d few low.
    let sides = c.args.sides.now in
    let all =
    subst
    (λ (xs : List Item). All IsPlacedItem xs → AreMarked sides.pcm_loop_filter_disabled xs c.marks_of-marks.result)
    c.items.ensures c.marks_of-marks.ensures in
    c.fill.ensures (all each) small x y d few low
