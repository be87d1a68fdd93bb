use Rattle.std.proofs.Common.{◌<◌, arith}
use Rattle.picture_motion.specs.CtuMotion.{held}
use Rattle.picture_filters.specs.SpecPictureTrees.{unit_places}
use Rattle.unit_build.proofs.Around.{still_near}
use Rattle.unit_build.proofs.near.is_still_row.Goals as goal

pub returns-then-is_unknown_row-clause-still : goal.returns-then-is_unknown_row-clause-still
returns-then-is_unknown_row-clause-still g c = λ told x few.
    let near = c.args.near.now in
    let unit = near.unit.now in
    let across : x < unit_places unit.layout = omega (arith, few, c.if-side.true, c.side.ensures.value) in
    let down : c.args.y < unit_places unit.layout =
    omega (arith, c.requires.y, c.if-side.true, c.side.ensures.value) in
    still_near unit.layout unit.address near.slice.now (held near.motion.now)
    (g.B.MotionBeside.motion_at near.beside.now) x c.args.y across down
    (c.is_unknown_row.ensures c.if-is_unknown_row.true x few)
