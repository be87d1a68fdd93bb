use Rattle.std.proofs.Common.{◌≡◌, ℕ, ◌+◌, ◌-◌, ◌<◌, slice_index_or, take, drop, sym, subst, ◌∙◌, arith}
use Rattle.std.proofs.lemmas.List.{get_or-drop, get_or-take}
use Rattle.picture_buffer.specs.Planes.{samples_of}
use Rattle.spec_picture_build.specs.Border.{unit_side, width_of}
use Rattle.picture_trees.specs.SpecPictureTrees.{unit_at}
use Rattle.spec_slice_data.specs.Segment.{PictureShape}
use Rattle.unit_build.specs.Parts.{IsPart}
use Rattle.picture_build.specs.Standing.{Standing}
use Rattle.picture_build.proofs.LaidUnits.{above_laid}
use Rattle.picture_build.proofs.beside.PictureBesideBeside.above.Goals as goal

pub returns-clause-samples : goal.returns-clause-samples
returns-clause-samples c =
    let unit = c.self.inside.unit in
    let p = c.args.part in
    let row = c.row-row.result.now in
    let first = c.args.first in
    let count : ℕ = c.args.end - first in
    subst (λ (v : Standing). IsPart v.unit.layout v.unit.address p → (k : ℕ) → k < count
    → slice_index_or (take count (drop first row)) k 0 ≡ samples_of v.planes p.c (first + k) (p.y - 1))
    c.self.view_is
    (λ e k lt.
    let inside : first + k < p.width = omega (arith, lt, c.requires.inside.1) in
    let before =
    above_laid unit.layout unit.address p (first + k) c.side-side.ensures.shape e c.requires.room.some
    c.requires.lower.0 inside in
    get_or-take count (drop first row) k 0 lt ∙ get_or-drop first row k 0
    ∙ c.row-row.ensures.samples (first + k)
    (subst (λ (q : PictureShape). first + k < width_of q p.c) (sym c.self.invariant.0)
    (subst (λ n. first + k < n) e.width inside))
    (subst (λ (q : PictureShape).
    unit_at q (unit_side q p.c) (first + k) (p.y - 1) < c.self.inside.built.planes.now.laid)
    (sym c.self.invariant.0) (omega (arith, before, c.self.invariant.1))))
    c.requires.part
