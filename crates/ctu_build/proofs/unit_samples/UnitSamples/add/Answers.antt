use Rattle.std.proofs.Common.{rules, refl, ◌+◌, ◌-◌, ◌*◌, ◌^◌}
use Rattle.spec_transforms.specs.Matrices.{at}
use Rattle.ctu_build.specs.Held.{inside_of}
use Rattle.ctu_build.proofs.Cells.{are_added}
use Rattle.ctu_build.proofs.Changes.{held_added_square}
use Rattle.ctu_build.proofs.unit_samples.UnitSamples.add.Goals as goal

pub returns : goal.returns
returns c =
    held_added_square _ _ c.self.inside.values _ c.self.inside.known c.args.place (2 ^ c.args.place.log2) c.args.depth
    c.args.residuals.now (search rules) (search rules) refl refl
    c.requires.place.component c.requires.place.x c.requires.place.y c.add_lines.ensures

pub invariant_of-self : goal.invariant_of-self
invariant_of-self c =
    let p = c.args.place in
    are_added _ _ _ _ c.args.depth (inside_of p (2 ^ p.log2))
    (λ i j. at c.args.residuals.now (2 ^ p.log2 * (j - (p.y + 1)) + (i - (p.x + 1))))
    c.self.invariant c.add_lines.ensures
