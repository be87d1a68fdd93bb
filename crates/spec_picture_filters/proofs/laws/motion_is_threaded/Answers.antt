use Rattle.spec_picture_filters.proofs.Threaded.{threaded}
use Rattle.spec_picture_filters.proofs.laws.motion_is_threaded.Goals as goal

pub returns : goal.returns
returns c = threaded
