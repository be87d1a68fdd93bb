use Rattle.deblock.proofs.Flat.{turned_inside, level_inside, inside_of}
use Rattle.deblock.proofs.window.index.Goals as goal

pub returns-then-w-clause-inside : goal.returns-then-w-clause-inside
returns-then-w-clause-inside c =
    turned_inside c.args.w.now c.args.a c.args.b c.if-w.true
    (inside_of c.args.w.now c.args.a c.args.b c.requires.inside)

pub returns-else-w-clause-inside : goal.returns-else-w-clause-inside
returns-else-w-clause-inside c =
    level_inside c.args.w.now c.args.a c.args.b c.if-w.false
    (inside_of c.args.w.now c.args.a c.args.b c.requires.inside)
