use Rattle.spec_made.specs.InterRows.{contexts_at, contexts_of_motion, init_type, inter_row}
use Rattle.spec_made.specs.PcmRows.{pcm_contexts_at, pcm_row}
use Rattle.made_row_laws.specs.Shapes.{idr_syntax, predicted_syntax}
use Rattle.made_row_laws.specs.Units.{inter_items, pcm_items}
use Rattle.made_row_laws.specs.Words.{inter_words, pcm_words}
use Rattle.made_row_laws.proofs.Pictures.{inter_rows, pcm_rows, read_back}
use Rattle.made_row_laws.proofs.laws.made_rows_read_back.Goals as goal

pub returns-clause-inter : goal.returns-clause-inter
returns-clause-inter c = λ m units before small none.
    read_back (predicted_syntax m.second) (init_type m.second) (inter_row m units) (inter_items m units)
    (inter_words m units) (contexts_at (contexts_of_motion m) m units) before (inter_rows m units small) none

pub returns-clause-pcm : goal.returns-clause-pcm
returns-clause-pcm c = λ units before are none.
    read_back idr_syntax 0 (pcm_row units) (pcm_items units) (pcm_words units) (pcm_contexts_at units) before
    (pcm_rows units are) none
