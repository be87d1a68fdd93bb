use Rattle.std.proofs.Common.{◌+◌, ◌<◌, ◌==◌, unwrap_or, rules, ◌∙◌, ap}
use Rattle.unit_build.specs.CtuBuild.{held}
use Rattle.row_borders.specs.Strips.{StripPlaces}
use Rattle.row_borders.proofs.Kept.{lines_more}
use Rattle.row_borders.proofs.keep.keep_samples.Goals as goal

pub loop-k-preserved : goal.loop-k-preserved
loop-k-preserved c =
    let side : c.args.side < 129 = search rules in
    record {
      told = λ i j.
          lines_more (i == c.args.c) j c.loop-k.k
          (λ q. unwrap_or (held c.args.built.now.samples c.args.c c.args.side (q + 1)) 0) _ _ _ _
          (c.line.ensures.value c.args.side side) (c.loop-k.invariant.told i j) (c.lay_sample.ensures.samples i j);
      places = ap (λ (s : StripPlaces). s.places) c.lay_sample.ensures.same ∙ c.loop-k.invariant.places;
      motion = ap (λ (s : StripPlaces). s.motion) c.lay_sample.ensures.same ∙ c.loop-k.invariant.motion;
      coded = ap (λ (s : StripPlaces). s.coded) c.lay_sample.ensures.same ∙ c.loop-k.invariant.coded;
    }
