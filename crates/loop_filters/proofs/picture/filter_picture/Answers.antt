use Rattle.std.proofs.Common.{sym, subst}
use Rattle.picture_buffer.specs.Planes.{samples_of}
use Rattle.loop_filters.specs.Formats.{filters_of}
use Rattle.loop_filters.specs.Scratch.{HasRoom}
use Rattle.loop_filters.proofs.Parts.{components_more, later_stay, next_bounded}
use Rattle.loop_filters.proofs.picture.filter_picture.Goals as goal

pub filter_component-requires-clause-bounded : goal.filter_component-requires-clause-bounded
filter_component-requires-clause-bounded g c =
    next_bounded c.args.format.now c.component_of-component.result c.loop-c.c (samples_of c.args.planes.now)
    (samples_of c.loop-c.planes)
    c.component_of-component.ensures.c c.component_of-component.ensures.component c.requires.bounded
    c.loop-c.invariant.others

pub loop-c-preserved : goal.loop-c-preserved
loop-c-preserved g c = record {
  sides = c.filter_component.ensures.sides;
  room =
      subst (λ r. HasRoom r c.args.format.now.width c.args.format.now.height) (sym c.filter_component.ensures.room)
      c.loop-c.invariant.room;
  told =
      components_more
      (filters_of c.args.format.now (g.V.PlaceView.place_at c.args.view.now) (g.V.FilterView.unit_at c.args.view.now))
      c.component_of-component.result c.loop-c.c
      (samples_of c.args.planes.now) (samples_of c.loop-c.planes) (samples_of c.filter_component.new.planes)
      c.component_of-component.ensures.c c.component_of-component.ensures.component
      c.filter_component.ensures.value c.filter_component.ensures.others c.loop-c.invariant.told
      c.loop-c.invariant.others;
  others =
      later_stay c.component_of-component.result c.loop-c.c (samples_of c.args.planes.now) (samples_of c.loop-c.planes)
      (samples_of c.filter_component.new.planes)
      c.component_of-component.ensures.c c.filter_component.ensures.others c.loop-c.invariant.others;
}
