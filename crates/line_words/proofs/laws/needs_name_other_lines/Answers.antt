use Rattle.line_words.proofs.Apart.{read_names_others, unit_names_others}
use Rattle.line_words.proofs.laws.needs_name_other_lines.Goals as goal

pub returns-clause-unit : goal.returns-clause-unit
returns-clause-unit c = λ plan s l x sized line. unit_names_others plan s l x sized line

pub returns-clause-read : goal.returns-clause-read
returns-clause-read c = λ plan s l x sized line. read_names_others plan s l x sized line
