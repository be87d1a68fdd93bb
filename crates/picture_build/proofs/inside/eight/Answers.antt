use Rattle.std.proofs.Common.{◌<◌, arith}
use Rattle.inter_pred.proofs.Lanes.{loaded, splat, least}
use Rattle.picture_build.proofs.inside.eight.Goals as goal

pub returns-clause-long : goal.returns-clause-long
returns-clause-long c =
    let lt : 0 < 8 = omega arith in
    let l = least lt (loaded lt c.args.row.now c.args.start (omega arith)) (splat lt c.args.greatest) in
    l.long

pub returns-clause-value : goal.returns-clause-value
returns-clause-value c k lt =
    let l = least lt (loaded lt c.args.row.now c.args.start (omega arith)) (splat lt c.args.greatest) in
    l.is
