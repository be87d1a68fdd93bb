use Rattle.std.proofs.Common.{refl}
use Rattle.boundary_strengths.proofs.Steps.{marked_none}
use Rattle.boundary_strengths.proofs.marks.unmarked.Goals as goal

pub returns : goal.returns
returns c = marked_none c.args.pcm_disabled _ refl refl refl refl refl refl
