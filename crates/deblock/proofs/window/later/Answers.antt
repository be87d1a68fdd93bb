use Rattle.std.proofs.Common.{◌+◌, ◌<◌, arith}
use Rattle.deblock.proofs.Flat.{index_inside, later_way}
use Rattle.deblock.proofs.window.later.Goals as goal

pub overflow_mul-result : goal.overflow_mul-result
overflow_mul-result c =
    let some : 0 < 8 = omega arith in
    let at = later_way c.args.w.now c.args.a c.args.b 0 c.args.n c.args.along c.args.way.first c.args.way.step
    c.requires.low c.requires.along (c.requires.at 0 some) in
    let inside = index_inside c.args.w.now (c.args.a + 0) (c.args.b + c.args.n) (c.requires.inside 0 some) in
    omega (arith, at, inside, c.requires.room)

pub overflow_add-result : goal.overflow_add-result
overflow_add-result c =
    let some : 0 < 8 = omega arith in
    let at = later_way c.args.w.now c.args.a c.args.b 0 c.args.n c.args.along c.args.way.first c.args.way.step
    c.requires.low c.requires.along (c.requires.at 0 some) in
    let inside = index_inside c.args.w.now (c.args.a + 0) (c.args.b + c.args.n) (c.requires.inside 0 some) in
    omega (arith, at, inside, c.requires.room)

pub returns : goal.returns
returns c = record {
  at = λ k few. later_way c.args.w.now c.args.a c.args.b k c.args.n c.args.along c.args.way.first c.args.way.step
      c.requires.low c.requires.along (c.requires.at k few);
}
