use Rattle.std.proofs.Common.{rules, ◌≡◌, sym, subst, ap, ◌∙◌, w8}
use Rattle.std.proofs.lemmas.Int.{to_z-of_z}
use Rattle.loop_filters.specs.Formats.{IsComponent, halved}
use Rattle.loop_filters.proofs.Components.{cb_is, cr_is, luma_of}
use Rattle.loop_filters.proofs.component.component_of.Goals as goal

pub returns-in-1-clause-component : goal.returns-in-1-clause-component
returns-in-1-clause-component c =
    let e : c.args.c ≡ 1 = search rules in
    let q = to_z-of_z w8 c.args.format.now.pps_cb_qp_offset (search rules) in
    subst (λ r. IsComponent c.args.format.now r)
    (sym (c.halved.ensures ∙ ap (λ q. halved c.args.format.now (luma_of c.args.format.now c.args.c) q) q))
    (cb_is c.args.format.now c.args.c e c.requires.format)

pub returns-in_default-clause-component : goal.returns-in_default-clause-component
returns-in_default-clause-component c =
    let e : c.args.c ≡ 2 = search rules in
    let q = to_z-of_z w8 c.args.format.now.pps_cr_qp_offset (search rules) in
    subst (λ r. IsComponent c.args.format.now r)
    (sym (c.halved-in_default.ensures ∙ ap (λ q. halved c.args.format.now (luma_of c.args.format.now c.args.c) q) q))
    (cr_is c.args.format.now c.args.c e c.requires.format)
