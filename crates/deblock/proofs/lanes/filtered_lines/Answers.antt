use Rattle.std.proofs.Common.{subst, sym}
use Rattle.spec_deblocking.specs.declared.line.Line.{Line}
use Rattle.deblock.specs.Lanes.{line_of}
use Rattle.deblock.specs.Samples.{AreSmall}
use Rattle.deblock.proofs.Vectors.{nearest_small, normal_small, strong_small}
use Rattle.deblock.proofs.lanes.filtered_lines.Goals as goal

pub returns-in-Normal-clause-small : goal.returns-in-Normal-clause-small
returns-in-Normal-clause-small c k lt =
    subst (λ (l : Line). AreSmall c.args.greatest l) (sym (c.normal.ensures.value k lt))
    (normal_small _ _ c.args.greatest c.args.tc (line_of c.args.l.now k) (c.requires.lines k lt))

pub returns-in-Strong-clause-small : goal.returns-in-Strong-clause-small
returns-in-Strong-clause-small c k lt =
    subst (λ (l : Line). AreSmall c.args.greatest l) (sym (c.strong.ensures.value k lt))
    (strong_small c.args.greatest c.args.tc (line_of c.args.l.now k) (c.requires.lines k lt))

pub returns-in-Nearest-clause-small : goal.returns-in-Nearest-clause-small
returns-in-Nearest-clause-small c k lt =
    subst (λ (l : Line). AreSmall c.args.greatest l) (sym (c.nearest.ensures.value k lt))
    (nearest_small c.args.greatest c.args.tc (line_of c.args.l.now k) (c.requires.lines k lt))
