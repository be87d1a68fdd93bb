use Rattle.line_words.specs.Places.{number_at}
use Rattle.line_words.proofs.Words.{knows_as_much}
use Rattle.border_words.proofs.Passes.{stays_own, stays_seen}
use Rattle.border_words.proofs.picture_blocks.lay_first_column.Goals as goal

pub lay_block_column-requires-clause-own : goal.lay_block_column-requires-clause-own
lay_block_column-requires-clause-own c =
    stays_own c.args.pass.now c.read_segment-number.new.pass c.read_segment-number.ensures c.args.board.now
    c.requires.own

pub lay_block_column-requires-clause-seen : goal.lay_block_column-requires-clause-seen
lay_block_column-requires-clause-seen c =
    stays_seen c.args.pass.now c.read_segment-number.new.pass c.read_segment-number.ensures
    (number_at c.args.blocks.now.at.now) c.args.blocks.now.at.now.unit c.requires.seen

pub returns-clause-pass : goal.returns-clause-pass
returns-clause-pass c =
    knows_as_much c.args.pass.now c.read_segment-number.new.pass c.lay_block_column.new.pass
    c.read_segment-number.ensures c.lay_block_column.ensures.pass
