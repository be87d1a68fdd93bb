use Rattle.std.proofs.Common.{◌≡◌, ◌<◌, ℕ, true, sym, subst}
use Rattle.picture_buffer.specs.Planes.{samples_of}
use Rattle.spec_picture_build.specs.Border.{has_sample, unit_side}
use Rattle.picture_trees.specs.SpecPictureTrees.{unit_at}
use Rattle.picture_build.specs.Fresh.{Fresh}
use Rattle.picture_build.proofs.LaidUnits.{all_laid}
use Rattle.picture_build.proofs.fresh.FreshPlanes.into_laid.Goals as goal

pub returns-clause-samples : goal.returns-clause-samples
returns-clause-samples c =
    let i = c.self.inside in
    subst (λ (f : Fresh). samples_of i.planes ≡ samples_of f.planes) c.self.view_is
    (all_laid i.layout i.laid i.planes c.self.invariant
    (subst (λ (f : Fresh). (k x y : ℕ) → has_sample f.picture k x y ≡ true
    → unit_at f.picture (unit_side f.picture k) x y < f.laid) (sym c.self.view_is) c.requires))
