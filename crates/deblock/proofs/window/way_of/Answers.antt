use Rattle.std.proofs.Common.{arith}
use Rattle.deblock.proofs.Flat.{turned_way, level_way}
use Rattle.deblock.proofs.window.way_of.Goals as goal

pub returns-then-w : goal.returns-then-w
returns-then-w c = record {
  at = λ k few. rw c.index-first.ensures.value
      (turned_way c.args.w.now c.args.a c.args.b k c.if-w.true (c.requires.inside 0 (omega arith)));
}

pub returns-else-w : goal.returns-else-w
returns-else-w c = record {
  at = λ k few. rw c.index-first.ensures.value (level_way c.args.w.now c.args.a c.args.b k c.if-w.false);
}
