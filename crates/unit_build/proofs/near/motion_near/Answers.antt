use Rattle.std.proofs.Common.{rules, ◌≡◌, ◌+◌, ◌-◌, true, false, ◌∙◌}
use Rattle.picture_motion.specs.CtuMotion.{held}
use Rattle.spec_picture_build.specs.SpecPictureMotion.{Motions, pointing_motion}
use Rattle.picture_filters.specs.SpecPictureTrees.{first_column, first_row, is_there}
use Rattle.spec_picture_build.specs.SpecSliceData.{PictureShape}
use Rattle.unit_build.specs.Near.{is_inside}
use Rattle.unit_build.proofs.Around.{near_beside, near_inside}
use Rattle.unit_build.proofs.near.motion_near.Goals as goal

pub returns-then-is_inside : goal.returns-then-is_inside
returns-then-is_inside g c =
    let picture : PictureShape = c.args.unit.now.layout in
    let there : is_there picture c.args.unit.now.address c.args.column c.args.row ≡ true = search rules in
    let inside : is_inside picture c.args.column c.args.row ≡ true = search rules in
    let at : c.pointing_motion.result
    ≡ pointing_motion c.args.slice.now (held c.args.motion.now c.args.column c.args.row) = search rules in
    at
    ∙ near_inside picture c.args.unit.now.address c.args.slice.now (held c.args.motion.now)
    (g.B.MotionBeside.motion_at c.args.beside.now) c.args.column c.args.row there inside

pub returns-else-is_inside : goal.returns-else-is_inside
returns-else-is_inside g c =
    let picture : PictureShape = c.args.unit.now.layout in
    let motions : Motions = g.B.MotionBeside.motion_at c.args.beside.now in
    let there : is_there picture c.args.unit.now.address c.args.column c.args.row ≡ true = search rules in
    let outside : is_inside picture c.args.column c.args.row ≡ false = search rules in
    let at : c.motion-else-is_inside.result
    ≡ motions (first_column picture c.args.unit.now.address + c.args.column - 1)
    (first_row picture c.args.unit.now.address + c.args.row - 1) = search rules in
    at
    ∙ near_beside picture c.args.unit.now.address c.args.slice.now (held c.args.motion.now) motions
    c.args.column c.args.row there outside
