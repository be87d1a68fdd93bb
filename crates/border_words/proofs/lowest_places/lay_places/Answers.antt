use Rattle.std.proofs.Common.{rules, ◌≡◌, ◌+◌, ◌<◌, ap, subst, refl, arith}
use Rattle.picture_layout.specs.declared.coding_tree_unit.CodingTreeUnit.{CodingTreeUnit}
use Rattle.spec_picture_trees.specs.Shapes.{picture_shape}
use Rattle.row_borders.specs.Borders.{Bordering}
use Rattle.row_borders.specs.Next.{HasPlaces}
use Rattle.border_words.specs.declared.kept_places.KeptPlace.{KeptPlace}
use Rattle.border_words.proofs.Laying.{place_laid, same_places}
use Rattle.border_words.proofs.lowest_places.lay_places.Goals as goal

pub lay_place_above-requires : goal.lay_place_above-requires
lay_place_above-requires c =
    let wide : c.loop-i.border.unit.layout.across ≡ c.args.border.now.unit.layout.across =
    ap (λ (b : Bordering). b.unit.layout.across) c.loop-i.invariant.same in
    let inside = c.requires.inside in
    let test = c.loop-i-test.true in
    omega (arith, wide, inside, test)

pub loop-i-preserved : goal.loop-i-preserved
loop-i-preserved c =
    let p = c.args.plan.now in
    let i = c.loop-i.invariant in
    record {
      slice = c.keep_place-place.ensures.slice;
      places = λ units row are has.
          let here = are c.loop-i.i c.loop-i-test.true in
          let kept = c.keep_place-place.ensures.value _ _ here in
          place_laid (picture_shape p.sps p.pps) row c.loop-i.border.above c.lay_place_above.new.self.above units
          c.args.first c.loop-i.i c.keep_place-place.result.motion c.keep_place-place.result.coded
          (record { motion = c.lay_place_above.ensures.motion; flags = c.lay_place_above.ensures.coded })
          (ap (λ (k : KeptPlace). k.motion) kept) (ap (λ (k : KeptPlace). k.coded) kept) (i.places units row are has);
      same =
          same_places c.args.border.now c.loop-i.border c.lay_place_above.new.self i.same
          c.lay_place_above.ensures.same;
    }

pub loop-i-init : goal.loop-i-init
loop-i-init c =
    let p = c.args.plan.now in
    let e : c.args.first ≡ c.args.first + 0 = omega arith in
    record {
      slice = c.new-segment.ensures.slice;
      places = λ units row are has.
          subst (λ end. HasPlaces (picture_shape p.sps p.pps) row c.args.border.now.above units end) e has;
      same = refl;
    }

pub returns-clause-places : goal.returns-clause-places
returns-clause-places c = λ units row are has.
    let p = c.args.plan.now in
    let out = c.loop-i-test.false in
    let few = c.loop-i.auto.i-end in
    let e : c.args.first + c.loop-i.i ≡ c.args.first + c.args.above.now.count = omega (arith, out, few) in
    subst (λ end. HasPlaces (picture_shape p.sps p.pps) row c.loop-i.border.above units end) e
    (c.loop-i.invariant.places units row are has)

pub overflow_add-first : goal.overflow_add-first
overflow_add-first c =
    let wide = ap (λ (v : CodingTreeUnit). v.layout.across) c.unit-here.ensures in
    let few = c.across-across.ensures.few in
    let across = c.across-across.ensures.value in
    let inside = c.requires.inside in
    let test = c.loop-i-test.true in
    let small : c.args.first + c.loop-i.i < 2049 = omega (arith, wide, few, across, inside, test) in
    search (rules, arith)
