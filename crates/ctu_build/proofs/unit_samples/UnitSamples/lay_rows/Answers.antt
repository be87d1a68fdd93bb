use Rattle.std.proofs.Common.{rules}
use Rattle.ctu_build.proofs.Rectangles.{area_laid}
use Rattle.ctu_build.proofs.unit_samples.UnitSamples.lay_rows.Goals as goal

pub returns : goal.returns
returns g c =
    area_laid c.args.samples.now c.args.c c.args.area _ _ c.loop-line.line (search rules) c.loop-line.invariant
