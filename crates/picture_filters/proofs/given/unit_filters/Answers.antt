use Rattle.std.proofs.Common.{rules, ◌≡◌, ℕ, ◌<◌, Bool, List, Option, ap, subst, sym, arith, ◌∙◌}
use Rattle.boundary_strengths.specs.Held.{beside_of}
use Rattle.picture_buffer.specs.declared.place_motion.PlaceMotion.{PlaceMotion}
use Rattle.boundary_strengths.specs.SpecBoundaryStrengths.{unit_place}
use Rattle.spec_picture_trees.specs.Places.{unit_places}
use Rattle.spec_picture_trees.specs.Shapes.{picture_shape}
use Rattle.picture_filters.specs.Filtering.{IsCodedAbove, IsCodedLeft}
use Rattle.picture_filters.proofs.Same.{read_is}
use Rattle.picture_filters.proofs.Units.{component_is}
use Rattle.picture_filters.proofs.given.unit_filters.Goals as goal

pub returns : goal.returns
returns g c = λ each small motions known e left above.
    let p = c.args.plan.now in
    let s = c.args.segment.now in
    let unit = c.args.unit.now in
    let ctu = c.args.records.now in
    let sides = c.unit_sides-sides in
    let side : c.side-side.result ≡ unit_places (picture_shape p.sps p.pps) =
    c.side-side.ensures.value ∙ ap unit_places c.requires.layout in
    let inside : (k : ℕ) → k < unit_places (picture_shape p.sps p.pps) → k < c.side-side.result =
    λ k lt. subst (λ (n : ℕ). k < n) (sym side) lt in
    let below : (k : ℕ) → k < unit_places (picture_shape p.sps p.pps) → k < 16 =
    λ k lt. omega (arith, inside k lt, c.side-side.ensures.small) in
    record {
      places = λ x y few low. c.unit_places.ensures each small x y _ (inside x few) (inside y low)
          ∙ (ap (λ (m : ℕ → ℕ → Option PlaceMotion). unit_place (beside_of sides.result m)
          sides.result.pcm_loop_filter_disabled sides.result.qp_bd_offset ctu.items x y) e
          ∙ read_is p s unit ctu.items motions known sides.result x y c.requires sides.ensures.left sides.ensures.top
          sides.ensures.disabled sides.ensures.pcm sides.ensures.offset
          (subst (λ (f : List Bool). IsCodedLeft unit known f) (sym sides.ensures.coded_left) left)
          (subst (λ (f : List Bool). IsCodedAbove unit known f) (sym sides.ensures.coded_above) above)
          (below x few) (below y low));
      deblocking = search rules;
      offsets = λ k lt. component_is p s unit.slice ctu.sao c.sao.result k _ c.requires.slice c.sao.ensures
          (c.unit_offsets-given.ensures k lt);
    }
