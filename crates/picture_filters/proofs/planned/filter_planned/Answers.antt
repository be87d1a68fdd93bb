use Rattle.std.proofs.Common.{◌-◌, ◌/◌, ◌^◌, ◌<◌, ◌≤◌, subst, sym, ◌∙◌}
use Rattle.picture_filters.specs.Places.{HasPlaces}
use Rattle.picture_filters.specs.Units.{HasUnits}
use Rattle.loop_filters.specs.Scratch.{HasRoom}
use Rattle.picture_buffer.specs.Planes.{HasSides, samples_of}
use Rattle.spec_picture_filters.specs.SpecLoopFilters.{FilterFormat}
use Rattle.spec_picture_filters.specs.SpecLoopFilters.{depth_of}
use Rattle.picture_filters.proofs.Formats.{is_planned, of_sides, plane_heights, plane_widths}
use Rattle.picture_filters.proofs.Whole.{viewed_filtered}
use Rattle.picture_filters.proofs.planned.filter_planned.Goals as goal

pub new-view-requires-clause-size : goal.new-view-requires-clause-size
new-view-requires-clause-size c =
    let f = c.filter_format-format in
    let k = is_planned c.args.plan.now f.result f.ensures.value f.ensures.in_range in
    k.is_format.size.1

pub new-view-requires-clause-places : goal.new-view-requires-clause-places
new-view-requires-clause-places c =
    let f = c.filter_format-format in
    let k = is_planned c.args.plan.now f.result f.ensures.value f.ensures.in_range in
    of_sides (λ w h. HasPlaces c.args.places.now (w / 4) (h / 4)) _ _ _ _ k.width k.height c.requires.places

pub new-view-requires-clause-units : goal.new-view-requires-clause-units
new-view-requires-clause-units c =
    let f = c.filter_format-format in
    let k = is_planned c.args.plan.now f.result f.ensures.value f.ensures.in_range in
    of_sides (HasUnits c.args.units.now) _ _ _ _ k.columns k.rows c.requires.units

pub filter_picture-requires-clause-format : goal.filter_picture-requires-clause-format
filter_picture-requires-clause-format c =
    let f = c.filter_format-format in
    let k = is_planned c.args.plan.now f.result f.ensures.value f.ensures.in_range in
    k.is_format

pub filter_picture-requires-clause-sides : goal.filter_picture-requires-clause-sides
filter_picture-requires-clause-sides c =
    let f = c.filter_format-format in
    let k = is_planned c.args.plan.now f.result f.ensures.value f.ensures.in_range in
    of_sides (HasSides c.args.planes.now) _ _ _ _ k.width k.height c.requires.sides

pub filter_picture-requires-clause-bounded : goal.filter_picture-requires-clause-bounded
filter_picture-requires-clause-bounded c = λ i x y lt.
    subst (λ (f : FilterFormat). samples_of c.args.planes.now i x y ≤ 2 ^ depth_of f i - 1)
    (sym c.filter_format-format.ensures.value) (c.requires.bounded i x y lt)

pub filter_picture-requires-clause-room : goal.filter_picture-requires-clause-room
filter_picture-requires-clause-room c =
    let f = c.filter_format-format in
    let k = is_planned c.args.plan.now f.result f.ensures.value f.ensures.in_range in
    of_sides (HasRoom c.args.scratch.now) _ _ _ _ k.width k.height c.requires.room

pub returns-clause-value : goal.returns-clause-value
returns-clause-value c = λ i x y lt column row.
    let f = c.filter_format-format in
    let k = is_planned c.args.plan.now f.result f.ensures.value f.ensures.in_range in
    let sides : HasSides c.args.planes.now f.result.width f.result.height =
    of_sides (HasSides c.args.planes.now) _ _ _ _ k.width k.height c.requires.sides in
    c.filter_picture.ensures.value i x y lt
    (subst (λ n. x < n) (plane_widths c.args.planes.now f.result i lt sides) column)
    (subst (λ n. y < n) (plane_heights c.args.planes.now f.result i lt sides) row)
    ∙ viewed_filtered c.args.plan.now f.result c.new-view.result c.args.places.now c.args.units.now
    (samples_of c.args.planes.now) i x y f.ensures.value c.new-view.ensures

pub returns-clause-sides : goal.returns-clause-sides
returns-clause-sides c =
    let f = c.filter_format-format in
    let k = is_planned c.args.plan.now f.result f.ensures.value f.ensures.in_range in
    of_sides (HasSides c.filter_picture.new.planes) _ _ _ _ (sym k.width) (sym k.height) c.filter_picture.ensures.sides

pub returns-clause-room : goal.returns-clause-room
returns-clause-room c =
    let f = c.filter_format-format in
    let k = is_planned c.args.plan.now f.result f.ensures.value f.ensures.in_range in
    of_sides (HasRoom c.filter_picture.new.scratch) _ _ _ _ (sym k.width) (sym k.height) c.filter_picture.ensures.room
