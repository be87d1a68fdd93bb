use Rattle.std.proofs.Common.{rules, ◌+◌, min, arith}
use Rattle.std.proofs.lemmas.List.Elements.{All-from_get_or}
use Rattle.inter_pred.specs.Passes.{at, IsByte}
use Rattle.inter_pred.proofs.Laying.{part_laid, part_all}
use Rattle.picture_build.proofs.inside.inner_line.Goals as goal

pub returns-clause-value : goal.returns-clause-value
returns-clause-value g c =
    part_laid c.args.to g.row.WIDTH _ _ _ (λ n. min (at c.args.row.now (c.args.from + n)) c.args.greatest)
    (search rules) (search rules) (omega arith) (λ i lt. c.copy_eights.ensures i (search rules))

pub returns-clause-bytes : goal.returns-clause-bytes
returns-clause-bytes g c small old =
    part_all IsByte _ _ _ _ old (All-from_get_or IsByte c.copy_eights.new.out 0 (λ k lt.
    let t = c.copy_eights.ensures k (search rules) in
    let s = small k (search rules) in
    grind (arith, t, s)))
