use Rattle.sample_words.proofs.Motions.{modes_found, motion_found}
use Rattle.sample_words.proofs.laws.motion_is_unpacked.Goals as goal

pub returns-clause-motion : goal.returns-clause-motion
returns-clause-motion c = motion_found

pub returns-clause-modes : goal.returns-clause-modes
returns-clause-modes c = modes_found
