use Rattle.progress_words.specs.Passes.{view}
use Rattle.line_words.proofs.Words.{all_written}
use Rattle.line_words.proofs.counting.count_unit.Goals as goal

pub advance-requires-clause-written : goal.advance-requires-clause-written
advance-requires-clause-written g c =
    let key = c.args.board.now.flight in
    all_written (g.F.Facts.meaning key) (g.F.RowFacts.flight key) (g.met.F.RowFacts.meant key) c.args.at.now
    c.requires.flight c.number.ensures.unit (view c.args.pass.now) c.number.result c.number.ensures.value
    c.requires.unit c.requires.written
