use Rattle.made_row_laws.proofs.InterRow.{inter_has}
use Rattle.made_row_laws.proofs.PcmRow.{pcm_has}
use Rattle.made_row_laws.proofs.Pictures.{bytes_each}
use Rattle.made_row_laws.proofs.laws.made_rows_are_spelled.Goals as goal

pub returns-clause-inter : goal.returns-clause-inter
returns-clause-inter c = inter_has

pub returns-clause-pcm : goal.returns-clause-pcm
returns-clause-pcm c = λ units r are few. pcm_has units (bytes_each units are) r few
