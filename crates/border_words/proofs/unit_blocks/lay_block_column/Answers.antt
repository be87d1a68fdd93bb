use Rattle.std.proofs.Common.{◌*◌, ◌∙◌, arith}
use Rattle.line_words.specs.Places.{number_at}
use Rattle.line_words.proofs.Words.{knows_as_much}
use Rattle.border_words.specs.Beneath.{motion_in_unit}
use Rattle.border_words.proofs.Blocks.{block_laid, others_stay, same_beneath}
use Rattle.border_words.proofs.Passes.{stays_own, stays_seen}
use Rattle.border_words.proofs.unit_blocks.lay_block_column.Goals as goal

pub motion_of_place-motion-requires-clause-own : goal.motion_of_place-motion-requires-clause-own
motion_of_place-motion-requires-clause-own c =
    stays_own c.args.pass.now c.loop-row.pass c.loop-row.invariant.knows c.args.board.now c.requires.own

pub motion_of_place-motion-requires-clause-seen : goal.motion_of_place-motion-requires-clause-seen
motion_of_place-motion-requires-clause-seen c =
    stays_seen c.args.pass.now c.loop-row.pass c.loop-row.invariant.knows (number_at c.args.blocks.now.at.now)
    c.args.blocks.now.at.now.unit c.requires.seen

pub loop-row-preserved : goal.loop-row-preserved
loop-row-preserved c =
    let lays = c.lay_beneath.ensures.motion in
    let i = c.loop-row.invariant in
    record {
      blocks =
          block_laid c.loop-row.border c.lay_beneath.new.self c.args.column c.loop-row.row _ lays
          (λ r. motion_in_unit c.args.board.now.flight c.args.blocks.now c.args.i (4 * r))
          c.motion_of_place-motion.ensures.value i.blocks;
      others = λ k r other.
          others_stay c.loop-row.border c.lay_beneath.new.self c.args.column c.loop-row.row _ lays k r other
          ∙ i.others k r other;
      same = same_beneath c.args.border.now c.loop-row.border c.lay_beneath.new.self i.same c.lay_beneath.ensures.same;
      slice = c.motion_of_place-motion.ensures.slice;
      knows =
          knows_as_much c.args.pass.now c.loop-row.pass c.motion_of_place-motion.new.pass i.knows
          c.motion_of_place-motion.ensures.pass;
    }

pub returns-clause-column : goal.returns-clause-column
returns-clause-column c = λ row down.
    let out = c.loop-row-test.false in
    let side = c.side-side.ensures.value in
    c.loop-row.invariant.blocks row (omega (arith, down, out, side))
