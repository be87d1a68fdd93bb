use Rattle.std.proofs.Common.{[]}
use Rattle.progress_words.proofs.Joins.{opens}
use Rattle.progress_words.proofs.board.OpenBoard.of_words.Goals as goal

pub of_words-requires : goal.of_words-requires
of_words-requires g c =
    opens g.F.Facts.meaning c.args.facts.now c.args.words.now [] c.requires.laid c.requires.count c.requires.zeros
    c.requires.none
