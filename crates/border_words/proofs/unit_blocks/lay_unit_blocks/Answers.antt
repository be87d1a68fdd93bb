use Rattle.std.proofs.Common.{◌*◌, arith}
use Rattle.spec_picture_trees.specs.Places.{unit_places}
use Rattle.line_words.specs.Places.{number_at}
use Rattle.line_words.proofs.Words.{knows_as_much}
use Rattle.border_words.specs.Beneath.{motion_in_unit}
use Rattle.border_words.proofs.Blocks.{columns_more, same_beneath}
use Rattle.border_words.proofs.Passes.{stays_own, stays_seen}
use Rattle.border_words.proofs.unit_blocks.lay_unit_blocks.Goals as goal

pub lay_block_column-requires-clause-own : goal.lay_block_column-requires-clause-own
lay_block_column-requires-clause-own c =
    stays_own c.args.pass.now c.loop-column.pass c.loop-column.invariant.knows c.args.board.now c.requires.own

pub lay_block_column-requires-clause-seen : goal.lay_block_column-requires-clause-seen
lay_block_column-requires-clause-seen c =
    stays_seen c.args.pass.now c.loop-column.pass c.loop-column.invariant.knows (number_at c.args.blocks.now.at.now)
    c.args.blocks.now.at.now.unit c.requires.seen

pub loop-column-preserved : goal.loop-column-preserved
loop-column-preserved c =
    let i = c.loop-column.invariant in
    record {
      columns =
          columns_more c.loop-column.border c.lay_block_column.new.border
          (unit_places c.args.blocks.now.unit.layout) c.loop-column.column
          (λ k row. motion_in_unit c.args.board.now.flight c.args.blocks.now (4 * k) (4 * row))
          c.lay_block_column.ensures.column c.lay_block_column.ensures.others i.columns;
      same =
          same_beneath c.args.border.now c.loop-column.border c.lay_block_column.new.border i.same
          c.lay_block_column.ensures.same;
      slice = c.lay_block_column.ensures.slice;
      knows =
          knows_as_much c.args.pass.now c.loop-column.pass c.lay_block_column.new.pass i.knows
          c.lay_block_column.ensures.pass;
    }

pub returns-clause-columns : goal.returns-clause-columns
returns-clause-columns c = λ column less.
    let out = c.loop-column-test.false in
    let side = c.side-side.ensures.value in
    c.loop-column.invariant.columns column (omega (arith, less, out, side))
