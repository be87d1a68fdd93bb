use Rattle.std.proofs.Common.{◌-◌, ◌∙◌, ap, rules}
use Rattle.row_borders.specs.Building.{built_coded, built_motion}
use Rattle.row_borders.specs.Strips.{StripPlaces}
use Rattle.row_borders.proofs.Kept.{one_more}
use Rattle.row_borders.proofs.keep.keep_places.Goals as goal

pub loop-k-preserved : goal.loop-k-preserved
loop-k-preserved c = record {
  motion = λ i.
      one_more i c.loop-k.k (built_motion c.args.built.now (c.args.side - 1)) _ _ _ _ (search rules)
      (c.loop-k.invariant.motion i) (c.lay_place.ensures.motion i);
  coded = λ i.
      one_more i c.loop-k.k (built_coded c.args.built.now (c.args.side - 1)) _ _ _ _ (search rules)
      (c.loop-k.invariant.coded i) (c.lay_place.ensures.coded i);
  places = ap (λ (s : StripPlaces). s.places) c.lay_place.ensures.same ∙ c.loop-k.invariant.places;
  samples = ap (λ (s : StripPlaces). s.samples) c.lay_place.ensures.same ∙ c.loop-k.invariant.samples;
}
