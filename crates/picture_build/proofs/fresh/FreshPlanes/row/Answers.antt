use Rattle.std.proofs.Common.{◌≡◌, ◌<◌, ℕ, length, slice_index_or, sym, subst, ◌∙◌}
use Rattle.picture_buffer.specs.Planes.{samples_of}
use Rattle.spec_picture_build.specs.Border.{height_of, unit_side, width_of}
use Rattle.picture_trees.specs.SpecPictureTrees.{unit_at}
use Rattle.picture_build.specs.Fresh.{Fresh}
use Rattle.picture_build.proofs.LaidUnits.{laid_there}
use Rattle.picture_build.proofs.Planes.{heights, widths}
use Rattle.picture_build.proofs.fresh.FreshPlanes.row.Goals as goal

pub row-requires-clause-row : goal.row-requires-clause-row
row-requires-clause-row c =
    let i = c.self.inside in
    let here : c.args.y < height_of i.layout c.args.c =
    subst (λ (f : Fresh). c.args.y < height_of f.picture c.args.c) (sym c.self.view_is) c.requires.row in
    subst (λ n. c.args.y < n) (sym (heights i.planes i.layout c.args.c c.requires.component c.self.invariant)) here

pub returns-clause-count : goal.returns-clause-count
returns-clause-count c =
    let i = c.self.inside in
    subst (λ (f : Fresh). length c.row.result.now ≡ width_of f.picture c.args.c) c.self.view_is
    (c.row.ensures.count ∙ widths i.planes i.layout c.args.c c.requires.component c.self.invariant)

pub returns-clause-samples : goal.returns-clause-samples
returns-clause-samples c =
    let i = c.self.inside in
    subst (λ (f : Fresh). (x : ℕ) → x < width_of f.picture c.args.c
    → unit_at f.picture (unit_side f.picture c.args.c) x c.args.y < f.laid
    → slice_index_or c.row.result.now x 0 ≡ samples_of f.planes c.args.c x c.args.y) c.self.view_is
    (λ x lt laid. c.row.ensures.samples x
    (subst (λ n. x < n) (sym (widths i.planes i.layout c.args.c c.requires.component c.self.invariant)) lt)
    ∙ sym (laid_there i.layout i.laid i.planes c.args.c x c.args.y laid))
