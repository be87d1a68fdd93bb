use Rattle.spec_made.specs.InterRows.{contexts_at, contexts_of_motion, init_type, inter_row}
use Rattle.spec_made.specs.PcmRows.{pcm_contexts_at, pcm_row}
use Rattle.made_row_laws.specs.Shapes.{idr_syntax, predicted_syntax}
use Rattle.made_row_laws.specs.Units.{inter_items, pcm_items}
use Rattle.made_row_laws.specs.Words.{inter_words, pcm_words}
use Rattle.made_row_laws.proofs.Pictures.{inter_rows, pcm_rows, picture_back}
use Rattle.made_row_laws.proofs.laws.made_pictures_read_back.Goals as goal

pub returns-clause-inter : goal.returns-clause-inter
returns-clause-inter c = λ p m units small is.
    picture_back (predicted_syntax m.second) (init_type m.second) (inter_row m units) (inter_items m units)
    (inter_words m units) (contexts_at (contexts_of_motion m) m units) p (inter_rows m units small) is

pub returns-clause-pcm : goal.returns-clause-pcm
returns-clause-pcm c = λ p units are is.
    picture_back idr_syntax 0 (pcm_row units) (pcm_items units) (pcm_words units) (pcm_contexts_at units) p
    (pcm_rows units are) is
