use Rattle.std.proofs.Common.{◌≡◌, ◌<◌, true, sym, subst, ◌∙◌, arith}
use Rattle.spec_picture_build.specs.Border.{has_sample, unit_side}
use Rattle.picture_trees.specs.SpecPictureTrees.{unit_at}
use Rattle.spec_slice_data.specs.Segment.{PictureShape}
use Rattle.picture_build.proofs.fresh.FreshPlanes.finish.Goals as goal

pub returns-clause-all : goal.returns-clause-all
returns-clause-all c = λ k x y has.
    let same : c.layout.result ≡ c.reach.new.self.picture = c.layout.ensures ∙ sym c.reach.ensures.picture in
    subst (λ (q : PictureShape). has_sample q k x y ≡ true → unit_at q (unit_side q k) x y < c.reach.new.self.laid)
    same (λ h. let lt = c.units_of-units.ensures.all k x y h in omega (arith, lt, c.reach.ensures.laid)) has
