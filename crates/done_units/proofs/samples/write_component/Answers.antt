use Rattle.done_units.proofs.Standing.{may_pack}
use Rattle.done_units.proofs.samples.write_component.Goals as goal

pub words_across-count-requires : goal.words_across-count-requires
words_across-count-requires c =
    (may_pack c.args.board.now.flight c.args.at.now c.args.done.now c.requires.flight c.requires.done).column
