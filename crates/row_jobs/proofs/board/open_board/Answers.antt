use Rattle.std.proofs.Common.{◌∙◌}
use Rattle.row_jobs.proofs.Boards.{as_many_lines, as_many_words}
use Rattle.row_jobs.proofs.board.open_board.Goals as goal

pub open-requires-clause-layout : goal.open-requires-clause-layout
open-requires-clause-layout c = (
  c.lines.ensures.value ∙ as_many_lines c.args.facts.now c.args.layout.now c.requires.flight,
  c.words.ensures ∙ as_many_words c.args.facts.now c.args.layout.now c.requires.flight,
)
