use Rattle.std.proofs.Common.{rules, arith}
use Rattle.ctu_build.proofs.Fits.{luma_fits}
use Rattle.ctu_build.proofs.place.luma_place.Goals as goal

pub returns-clause-inside : goal.returns-clause-inside
returns-clause-inside c = record {
  component = omega arith;
  some = omega arith;
  few = omega (arith, c.requires.square.size);
  x = luma_fits c.args.square.x _ _ c.args.square.log2_size (search rules) (search rules) c.requires.square.x;
  y = luma_fits c.args.square.y _ _ c.args.square.log2_size (search rules) (search rules) c.requires.square.y;
}
