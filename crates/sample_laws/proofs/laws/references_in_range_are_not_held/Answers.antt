use Rattle.sample_laws.proofs.Pictures.{held_idle}
use Rattle.sample_laws.proofs.laws.references_in_range_are_not_held.Goals as goal

pub returns : goal.returns
returns c = record { same = λ format d below c x y. held_idle format d below c x y }
