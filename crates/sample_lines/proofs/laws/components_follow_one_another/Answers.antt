use Rattle.sample_lines.proofs.WrittenWords.{component_next, components_all}
use Rattle.sample_lines.proofs.laws.components_follow_one_another.Goals as goal

pub returns-clause-next : goal.returns-clause-next
returns-clause-next c = component_next

pub returns-clause-all : goal.returns-clause-all
returns-clause-all c = components_all
