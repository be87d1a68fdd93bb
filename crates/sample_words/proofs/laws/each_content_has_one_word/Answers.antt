use Rattle.sample_words.proofs.Contents.{content_found, content_owned}
use Rattle.sample_words.proofs.laws.each_content_has_one_word.Goals as goal

pub returns-clause-found : goal.returns-clause-found
returns-clause-found c = content_owned

pub returns-clause-only : goal.returns-clause-only
returns-clause-only c = content_found
