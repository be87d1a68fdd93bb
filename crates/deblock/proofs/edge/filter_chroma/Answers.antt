use Rattle.std.proofs.Common.{ℤ, ap, subst, sym, w8, ◌∙◌}
use Rattle.std.proofs.lemmas.Int.{to_z-of_z}
use Rattle.spec_deblocking.specs.declared.place.Plane.TheVariants.{Chroma}
use Rattle.deblock.specs.declared.pass.Pass.{Pass}
use Rattle.deblock.proofs.Passing.{IsFiltered, same_pass}
use Rattle.deblock.proofs.edge.filter_chroma.Goals as goal

pub returns-clause-value : goal.returns-clause-value
returns-clause-value g c =
    subst
    (λ (pass : Pass). IsFiltered pass c.args.e c.args.s c.args.p.now c.args.q.now c.args.out.now c.filter_known.new.out)
    (same_pass c.args.pass.now _ _
    (c.requires.plane ∙ ap (λ (z : ℤ). Chroma z) (sym (to_z-of_z w8 c.args.qp_pic_offset c.ranges.qp_pic_offset)))
    c.requires.turned) c.filter_known.ensures.value
