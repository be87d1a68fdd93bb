use Rattle.std.proofs.Common.{◌+◌, arith}
use Rattle.deblock.proofs.Flat.{index_inside}
use Rattle.deblock.proofs.window.sample.Goals as goal

pub overflow_mul-k : goal.overflow_mul-k
overflow_mul-k c =
    let at = c.requires.at c.args.k c.requires.few in
    let inside = index_inside c.args.w.now (c.args.a + c.args.k) c.args.b
    (c.requires.inside c.args.k c.requires.few) in
    omega (arith, at, inside, c.requires.room)

pub overflow_add-way : goal.overflow_add-way
overflow_add-way c =
    let at = c.requires.at c.args.k c.requires.few in
    let inside = index_inside c.args.w.now (c.args.a + c.args.k) c.args.b
    (c.requires.inside c.args.k c.requires.few) in
    omega (arith, at, inside, c.requires.room)

pub offset_bounds-samples-way : goal.offset_bounds-samples-way
offset_bounds-samples-way c =
    let at = c.requires.at c.args.k c.requires.few in
    let inside = index_inside c.args.w.now (c.args.a + c.args.k) c.args.b
    (c.requires.inside c.args.k c.requires.few) in
    omega (arith, at, inside, c.requires.room)

pub bounds-samples-way : goal.bounds-samples-way
bounds-samples-way c =
    let at = c.requires.at c.args.k c.requires.few in
    let inside = index_inside c.args.w.now (c.args.a + c.args.k) c.args.b
    (c.requires.inside c.args.k c.requires.few) in
    omega (arith, at, inside, c.requires.room)
