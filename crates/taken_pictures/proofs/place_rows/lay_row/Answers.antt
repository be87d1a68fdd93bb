use Rattle.picture_buffer.specs.Motion.{motions_of}
use Rattle.taken_pictures.specs.Kept.{kept_at}
use Rattle.taken_pictures.proofs.Laid.{run_laid}
use Rattle.taken_pictures.proofs.place_rows.lay_row.Goals as goal

pub loop-column-preserved : goal.loop-column-preserved
loop-column-preserved c =
    let i = c.loop-column.invariant in
    let p = c.args.plan.now in
    let address = c.args.unit.now.address in
    let row = c.args.row.now in
    let end = c.run_end-end.ensures in
    record {
      sides = c.put_run.ensures.sides _ _ i.sides;
      slice = c.kept_motion-motion.ensures.slice;
      inside = end.inside;
      places = run_laid row.x row.y c.loop-column.column c.run_end-end.result c.kept_motion-motion.result
          (kept_at p address row) (motions_of c.args.field.now) (motions_of c.loop-column.field)
          (motions_of c.put_run.new.self) end.more c.kept_motion-motion.ensures.value (end.same p address) i.places
          c.put_run.ensures.places;
    }
