use Rattle.std.proofs.Common.{rules}
use Rattle.ctu_motion.specs.Held.{held}
use Rattle.picture_buffer.specs.Motion.{motions_of}
use Rattle.picture_motion.proofs.Lines.{laid_rows}
use Rattle.picture_motion.proofs.unit_lines.lay_unit.Goals as goal

pub returns-clause-value : goal.returns-clause-value
returns-clause-value c =
    laid_rows c.args.unit.now c.places-block.result c.args.slice.now (held c.args.motion.now)
    (motions_of c.args.field.now) (motions_of c.loop-row.field) c.places-block.ensures.block (search rules)
