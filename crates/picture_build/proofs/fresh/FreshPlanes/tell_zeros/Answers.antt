use Rattle.std.proofs.Common.{◌≡◌, ◌≤◌, ℕ, subst}
use Rattle.picture_buffer.specs.Planes.{samples_of}
use Rattle.spec_picture_build.specs.Border.{unit_side}
use Rattle.picture_trees.specs.SpecPictureTrees.{unit_at}
use Rattle.picture_build.specs.Fresh.{Fresh}
use Rattle.picture_build.proofs.LaidUnits.{laid_nowhere}
use Rattle.picture_build.proofs.fresh.FreshPlanes.tell_zeros.Goals as goal

pub returns : goal.returns
returns c =
    let i = c.self.inside in
    subst (λ (f : Fresh). (k x y : ℕ) → f.laid ≤ unit_at f.picture (unit_side f.picture k) x y
    → samples_of f.planes k x y ≡ 0) c.self.view_is (λ k x y. laid_nowhere i.layout i.laid i.planes k x y)
