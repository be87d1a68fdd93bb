use Rattle.unit_words.proofs.Resumed.{may_be_resumed, of_carry}
use Rattle.unit_words.proofs.carried.readers_may_be_resumed.Goals as goal

pub returns-clause-resumed : goal.returns-clause-resumed
returns-clause-resumed c = may_be_resumed

pub returns-clause-words : goal.returns-clause-words
returns-clause-words c = of_carry
