use Rattle.made_row_laws.proofs.Ranges.{are_drawn, motion_small}
use Rattle.made_row_laws.proofs.laws.drawn_units_are_in_range.Goals as goal

pub returns-clause-motion : goal.returns-clause-motion
returns-clause-motion c = motion_small

pub returns-clause-pcm : goal.returns-clause-pcm
returns-clause-pcm c = are_drawn
