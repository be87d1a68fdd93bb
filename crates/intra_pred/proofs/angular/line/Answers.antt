use Rattle.std.proofs.Common.{◌≡◌, ◌≤◌, ◌+◌, ◌*◌, length, ℤ, sym, ap, ◌∙◌, rules, arith}
use Rattle.std.proofs.lemmas.Int.{to_z-of_z}
use mir.Val.{SFits}
use mir.Syntax.{w32}
use Rattle.spec_intra_prediction.specs.Angular.{angle, met}
use Rattle.intra_pred.proofs.Sides.{line_plain, line_edged}
use Rattle.intra_pred.proofs.angular.line.Goals as goal

pub returns-then-has_edge : goal.returns-then-has_edge
returns-then-has_edge c =
    let d = c.args.direction in
    let f : SFits w32 c.pred_angle.result = search rules in
    let e : c.met-place.result ≡ met c.args.line.n (angle d.mode) c.args.line.y =
    c.met-place.ensures.value
    ∙ ap (λ (z : ℤ). met c.args.line.n z c.args.line.y)
    (to_z-of_z w32 c.pred_angle.result f ∙ c.pred_angle.ensures.value) in
    let room : c.args.line.n * c.args.line.y + c.args.line.n ≤ length c.met_line.new.out =
    omega (arith, c.requires.out, c.met_line.auto.out) in
    line_edged d.edges d.log2 c.args.line.n d.mode d.depth c.met-place.result c.args.line.y c.stepped.result
    c.args.sides.now.main.now c.args.sides.now.side.now c.args.reference.now c.args.out.now c.met_line.new.out
    c.requires.n c.requires.y room c.requires.reference e c.met-place.ensures.greatest
    (sym c.has_edge.ensures ∙ c.if-has_edge.true) c.stepped.ensures (rw (← c.requires.n) at c.met_line.ensures)

pub returns-else-has_edge : goal.returns-else-has_edge
returns-else-has_edge c =
    let d = c.args.direction in
    let f : SFits w32 c.pred_angle.result = search rules in
    let e : c.met-place.result ≡ met c.args.line.n (angle d.mode) c.args.line.y =
    c.met-place.ensures.value
    ∙ ap (λ (z : ℤ). met c.args.line.n z c.args.line.y)
    (to_z-of_z w32 c.pred_angle.result f ∙ c.pred_angle.ensures.value) in
    line_plain d.edges d.log2 c.args.line.n d.mode d.depth c.met-place.result c.args.line.y c.args.sides.now.main.now
    c.args.sides.now.side.now c.args.reference.now c.args.out.now c.met_line.new.out
    c.requires.n c.requires.y c.requires.reference e c.met-place.ensures.greatest
    (sym c.has_edge.ensures ∙ c.if-has_edge.false) (rw (← c.requires.n) at c.met_line.ensures)
