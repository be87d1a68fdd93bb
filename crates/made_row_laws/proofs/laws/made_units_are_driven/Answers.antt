use Rattle.std.specs.Prelude.{[]}
use Rattle.made_row_laws.proofs.Drawn.{driven_alone, inter_at, pcm_at}
use Rattle.made_row_laws.specs.Words.{flags_behind, inter_words, pcm_words}
use Rattle.made_row_laws.proofs.laws.made_units_are_driven.Goals as goal

pub returns-clause-inter : goal.returns-clause-inter
returns-clause-inter c = λ init_type row m units i between small fits is last.
    driven_alone _ _ (inter_words m units i) (flags_behind i) (inter_at init_type row m units i between [] small fits is
    last)

pub returns-clause-pcm : goal.returns-clause-pcm
returns-clause-pcm c = λ init_type row units i between small long is last.
    driven_alone _ _ (pcm_words units i) (flags_behind i) (pcm_at init_type row units i between [] small long is last)
