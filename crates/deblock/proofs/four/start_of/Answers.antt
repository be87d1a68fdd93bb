use Rattle.std.proofs.Common.{◌+◌, arith}
use Rattle.deblock.proofs.Beside.{row_inside}
use Rattle.deblock.proofs.four.start_of.Goals as goal

pub overflow_mul-result : goal.overflow_mul-result
overflow_mul-result c =
    let inside = row_inside c.args.w.now (c.args.a + c.args.k) c.args.b _ c.requires.turned
    (c.requires.inside c.args.k 3 c.requires.few (omega arith)) (c.requires.at c.args.k c.requires.few) in
    omega (arith, inside, c.requires.room)

pub overflow_add-result : goal.overflow_add-result
overflow_add-result c =
    let inside = row_inside c.args.w.now (c.args.a + c.args.k) c.args.b _ c.requires.turned
    (c.requires.inside c.args.k 3 c.requires.few (omega arith)) (c.requires.at c.args.k c.requires.few) in
    omega (arith, inside, c.requires.room)

pub returns-clause-room : goal.returns-clause-room
returns-clause-room c =
    let inside = row_inside c.args.w.now (c.args.a + c.args.k) c.args.b _ c.requires.turned
    (c.requires.inside c.args.k 3 c.requires.few (omega arith)) (c.requires.at c.args.k c.requires.few) in
    omega (arith, inside, c.requires.room)
