use Rattle.std.proofs.Common.{refl, false}
use Rattle.spec_slice_data.specs.declared.syntax.End.TheVariants as end
use Rattle.engine_laws.proofs.Units.{unit_leaves}
use Rattle.engine_laws.proofs.laws.engines_stay_in_their_substreams.Goals as goal

pub returns-clause-within : goal.returns-clause-within
returns-clause-within c = λ syntax left above is_last ends ctu read_ctu follows bits s t going e.
    (unit_leaves syntax left above is_last ends ctu bits s t (read_ctu, follows) going e).within

pub returns-clause-going : goal.returns-clause-going
returns-clause-going c = λ syntax left above is_last ends ctu read_ctu bits s t going e.
    (unit_leaves syntax left above is_last ends ctu bits s t (read_ctu, end.More) going e).going refl

pub returns-clause-more : goal.returns-clause-more
returns-clause-more c = λ syntax left above ctu read_ctu follows bits s t going e.
    (unit_leaves syntax left above false false ctu bits s t (read_ctu, follows) going e).more refl refl
