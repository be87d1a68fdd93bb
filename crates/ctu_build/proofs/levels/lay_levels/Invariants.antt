use Rattle.std.proofs.Common.{◌≡◌, drop}
use Rattle.std.specs.List.{All}
use Rattle.spec_reconstruction.specs.Residuals.{levels_laid}
use Rattle.spec_transforms.specs.Scaling.{Is16}
use Rattle.ctu_build.proofs.levels.lay_levels.Given as goal

abbrev pub invariant-loop-k : goal.invariant-loop-k
invariant-loop-k l = record {
  small : All Is16 l.levels;
  told : levels_laid l.levels (drop l.k l.items) ≡ levels_laid l.fn.levels l.items;
}
