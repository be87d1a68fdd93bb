use Rattle.locality_laws.proofs.Moved.{motion_is_its_step}
use Rattle.locality_laws.proofs.laws.motions_are_their_steps.Goals as goal

pub returns : goal.returns
returns c pictures others p before later unit s g x y =
    motion_is_its_step pictures p before later unit s others g x y
