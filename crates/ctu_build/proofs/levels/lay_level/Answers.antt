use Rattle.std.proofs.Common.{rules, sym, arith}
use Rattle.std.proofs.lemmas.List.{set_past}
use Rattle.std.proofs.lemmas.List.Elements.{All-set}
use Rattle.spec_transforms.specs.Scaling.{Is16}
use Rattle.ctu_build.proofs.levels.lay_level.Goals as goal

pub returns-then-from-levels-clause-small : goal.returns-then-from-levels-clause-small
returns-then-from-levels-clause-small c = All-set Is16 c.args.levels.now _ _ (search rules) c.requires

pub returns-else-from-levels-clause-value : goal.returns-else-from-levels-clause-value
returns-else-from-levels-clause-value c = sym (set_past c.args.levels.now c.args.place _ (omega arith))
