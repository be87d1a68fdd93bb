use Rattle.std.proofs.Common.{rules, ◌+ℤ◌, pos, arith}
use Rattle.std.proofs.lemmas.Int.{to_z-of_z}
use mir.Val.{SFits}
use mir.Syntax.{w32}
use Rattle.picture_buffer.specs.Planes.{plane_width}
use Rattle.spec_inter_prediction.specs.Taps.{clamped}
use Rattle.inter_pred.proofs.Inside.{clamped_below}
use Rattle.picture_build.proofs.held.clamped_row.Goals as goal

pub returns : goal.returns
returns c k lt =
    let fx : SFits w32 c.args.x = search rules in
    let fy : SFits w32 c.args.y = search rules in
    let inside = clamped_below (c.args.x +ℤ pos k) (plane_width c.args.planes.now c.args.c) c.requires.columns.0 in
    let told = c.held_line.ensures k lt in
    let line =
    c.row-line.ensures.samples (clamped (c.args.x +ℤ pos k) (plane_width c.args.planes.now c.args.c)) inside in
    grind (arith, to_z-of_z, told, line, c.row-line.ensures.count, c.clamped.ensures.value, c.height.ensures)
