use Rattle.std.proofs.Common.{rules, pos, ◌-ℤ◌, ◌≤◌, ap, ◌∙◌, arith}
use Rattle.std.proofs.lemmas.Int.{to_z-of_z}
use mir.Val.{SFits}
use mir.Syntax.{w8}
use Rattle.spec_boundary_strengths.specs.Places.{unit_place}
use Rattle.boundary_strengths.proofs.EdgeSides.{place_same}
use Rattle.boundary_strengths.proofs.places.intra_place.Goals as goal

pub returns : goal.returns
unfolding unit_place
returns c marked small motion none =
    let x = c.args.x in
    let y = c.args.y in
    let fits : SFits w8 c.qp_y.result = search rules in
    let low : c.qp.result ≤ 127 = omega (arith, small, c.qp.ensures) in
    place_same _ _ _ _ _ _ _ _ _ _ (c.intra_left.ensures _ _ motion marked none)
    (c.intra_top.ensures _ _ motion marked none)
    (marked.coded x y c.requires.x c.requires.y)
    (to_z-of_z w8 _ fits
    ∙ (c.qp_y.ensures low ∙ ap (λ q. pos q -ℤ pos c.args.sides.now.qp_bd_offset) c.qp.ensures))
    (marked.kept x y c.requires.x c.requires.y)
