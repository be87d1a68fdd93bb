use Rattle.spec_driven_trees.proofs.Spelling.{question_spelled}
use Rattle.spec_driven_trees.proofs.laws.questions_are_spelled.Goals as goal

pub returns : goal.returns
returns c = λ bin. question_spelled bin
