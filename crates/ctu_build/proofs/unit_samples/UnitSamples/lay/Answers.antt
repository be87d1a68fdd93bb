use Rattle.std.proofs.Common.{rules, refl, ◌+◌, ◌-◌, ◌*◌, ◌^◌, get_or, arith}
use Rattle.ctu_build.specs.Held.{inside_of}
use Rattle.ctu_build.proofs.Cells.{are_laid, place_lines}
use Rattle.ctu_build.proofs.Changes.{held_laid_square}
use Rattle.ctu_build.proofs.unit_samples.UnitSamples.lay.Goals as goal

pub returns : goal.returns
returns c =
    held_laid_square _ _ c.self.inside.values _ c.self.inside.known _ c.args.place (2 ^ c.args.place.log2)
    c.args.block.now (search rules) (search rules) refl refl c.requires.place.component c.requires.place.x
    c.requires.place.y c.mark_lines.ensures c.lay_lines.ensures

pub invariant_of-self : goal.invariant_of-self
invariant_of-self c =
    let p = c.args.place in
    are_laid _ _ _ _ _ _ (inside_of p (2 ^ p.log2))
    (λ d i j. get_or c.args.block.now (2 ^ p.log2 * (j - (p.y + 1)) + (i - (p.x + 1))) 0)
    c.self.invariant
    (λ d. c.with-self-inside.ensures.few d 65 (omega (arith, c.requires.place.y, c.side.ensures.value))
    (c.self.invariant.few d))
    c.with-self-inside.ensures.more
    (place_lines p (2 ^ p.log2) _ c.from.result _ (search rules) (omega (arith, c.side.ensures.value))
    c.with-self-inside.ensures.here)
    c.mark_lines.ensures c.lay_lines.ensures
