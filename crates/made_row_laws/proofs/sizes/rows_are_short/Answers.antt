use Rattle.made_row_laws.proofs.Short.{inter_short, pcm_short, units_drawn}
use Rattle.made_row_laws.proofs.sizes.rows_are_short.Goals as goal

pub returns-clause-inter : goal.returns-clause-inter
returns-clause-inter c = inter_short

pub returns-clause-pcm : goal.returns-clause-pcm
returns-clause-pcm c = pcm_short

pub returns-clause-drawn : goal.returns-clause-drawn
returns-clause-drawn c = λ g r. pcm_short _ r (units_drawn 48 g)
