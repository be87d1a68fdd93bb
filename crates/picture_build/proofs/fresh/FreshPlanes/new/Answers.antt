use Rattle.std.proofs.Common.{arith}
use Rattle.picture_build.proofs.LaidUnits.{laid_nowhere}
use Rattle.picture_build.proofs.fresh.FreshPlanes.new.Goals as goal

pub returns-clause-samples : goal.returns-clause-samples
returns-clause-samples c = λ k x y. laid_nowhere c.args.layout 0 c.args.planes k x y (omega arith)
