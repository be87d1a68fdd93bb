use Rattle.std.proofs.Common.{◌+◌, ◌*◌, arith}
use Rattle.deblock.proofs.Flat.{index_inside, put_seen}
use Rattle.deblock.proofs.window.put.Goals as goal

pub overflow_mul-out : goal.overflow_mul-out
overflow_mul-out c =
    let at = c.requires.at c.args.k c.requires.few in
    let inside = index_inside c.args.w.now (c.args.a + c.args.k) c.args.b
    (c.requires.inside c.args.k c.requires.few) in
    omega (arith, at, inside, c.requires.room)

pub overflow_add-out : goal.overflow_add-out
overflow_add-out c =
    let at = c.requires.at c.args.k c.requires.few in
    let inside = index_inside c.args.w.now (c.args.a + c.args.k) c.args.b
    (c.requires.inside c.args.k c.requires.few) in
    omega (arith, at, inside, c.requires.room)

pub offset_bounds-out-way : goal.offset_bounds-out-way
offset_bounds-out-way c =
    let at = c.requires.at c.args.k c.requires.few in
    let inside = index_inside c.args.w.now (c.args.a + c.args.k) c.args.b
    (c.requires.inside c.args.k c.requires.few) in
    omega (arith, at, inside, c.requires.room)

pub bounds-out-way : goal.bounds-out-way
bounds-out-way c =
    let at = c.requires.at c.args.k c.requires.few in
    let inside = index_inside c.args.w.now (c.args.a + c.args.k) c.args.b
    (c.requires.inside c.args.k c.requires.few) in
    omega (arith, at, inside, c.requires.room)

pub returns-clause-value : goal.returns-clause-value
returns-clause-value c =
    let inside = c.requires.inside c.args.k c.requires.few in
    let at = c.requires.at c.args.k c.requires.few in
    put_seen c.args.w.now c.args.out.now (c.args.a + c.args.k) c.args.b c.args.value
    (c.args.way.first + c.args.k * c.args.way.step) at
    (omega (arith, at, index_inside c.args.w.now (c.args.a + c.args.k) c.args.b inside, c.requires.room)) inside
