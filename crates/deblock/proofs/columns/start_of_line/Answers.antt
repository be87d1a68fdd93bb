use Rattle.std.proofs.Common.{◌+◌, ◌<◌, arith}
use Rattle.deblock.proofs.Abreast.{column_index, line_inside}
use Rattle.deblock.proofs.columns.start_of_line.Goals as goal

pub returns-clause-value : goal.returns-clause-value
returns-clause-value c k =
    let some : 0 < 8 = omega arith in
    let at = c.later.ensures.at 0 some in
    column_index c.args.w.now c.args.a (c.args.b + c.args.n) k _ c.requires.level (omega (arith, at))

pub returns-clause-room : goal.returns-clause-room
returns-clause-room c =
    let some : 0 < 8 = omega arith in
    let at = c.later.ensures.at 0 some in
    let inside = line_inside c.args.w.now c.args.a (c.args.b + c.args.n) c.later.result.first c.requires.level
    (c.requires.inside 7 (omega arith)) (omega (arith, at)) in
    omega (arith, inside, c.requires.room)
