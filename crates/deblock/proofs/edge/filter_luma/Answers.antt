use Rattle.std.proofs.Common.{subst}
use Rattle.spec_deblocking.specs.declared.place.Plane.TheVariants.{Luma}
use Rattle.deblock.specs.declared.pass.Pass.{Pass}
use Rattle.deblock.proofs.Passing.{IsFiltered, same_pass}
use Rattle.deblock.proofs.edge.filter_luma.Goals as goal

pub returns-clause-value : goal.returns-clause-value
returns-clause-value g c =
    subst
    (λ (pass : Pass). IsFiltered pass c.args.e c.args.s c.args.p.now c.args.q.now c.args.out.now c.filter_known.new.out)
    (same_pass c.args.pass.now Luma _ c.requires.plane c.requires.turned) c.filter_known.ensures.value
