use Rattle.std.proofs.Common.{◌+◌, ◌*◌, ◌∙◌, arith}
use Rattle.picture_buffer.specs.Motion.{motions_of}
use Rattle.border_words.proofs.Blocks.{block_laid, others_stay, same_beneath}
use Rattle.border_words.proofs.field_blocks.lay_field_column.Goals as goal

pub loop-row-preserved : goal.loop-row-preserved
loop-row-preserved c =
    let lays = c.lay_beneath.ensures.motion in
    let i = c.loop-row.invariant in
    record {
      blocks =
          block_laid c.loop-row.border c.lay_beneath.new.self c.args.column c.loop-row.row _ lays
          (λ r. motions_of c.args.field.now c.args.x (c.args.y + 4 * r)) c.at.ensures i.blocks;
      others = λ k r other.
          others_stay c.loop-row.border c.lay_beneath.new.self c.args.column c.loop-row.row _ lays k r other
          ∙ i.others k r other;
      same = same_beneath c.args.border.now c.loop-row.border c.lay_beneath.new.self i.same c.lay_beneath.ensures.same;
    }

pub returns-clause-column : goal.returns-clause-column
returns-clause-column c = λ row down.
    let out = c.loop-row-test.false in
    c.loop-row.invariant.blocks row (omega (arith, down, out))
