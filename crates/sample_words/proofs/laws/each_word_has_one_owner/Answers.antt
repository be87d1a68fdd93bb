use Rattle.sample_words.proofs.Owners.{count_found, fault_found, ticket_found, unit_word_found, word_owned}
use Rattle.sample_words.proofs.PictureWords.{unit_behind, unit_below}
use Rattle.sample_words.proofs.laws.each_word_has_one_owner.Goals as goal

pub returns-clause-found : goal.returns-clause-found
returns-clause-found c = word_owned

pub returns-clause-units : goal.returns-clause-units
returns-clause-units c = unit_word_found

pub returns-clause-behind : goal.returns-clause-behind
returns-clause-behind c = λ s u flight is. unit_behind s u

pub returns-clause-below : goal.returns-clause-below
returns-clause-below c = λ s u flight is. unit_below s u is

pub returns-clause-counts : goal.returns-clause-counts
returns-clause-counts c = count_found

pub returns-clause-ticket : goal.returns-clause-ticket
returns-clause-ticket c = ticket_found

pub returns-clause-fault : goal.returns-clause-fault
returns-clause-fault c = fault_found
