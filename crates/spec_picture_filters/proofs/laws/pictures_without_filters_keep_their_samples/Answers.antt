use Rattle.spec_picture_filters.proofs.Quiet.{unchanged}
use Rattle.spec_picture_filters.proofs.laws.pictures_without_filters_keep_their_samples.Goals as goal

pub returns : goal.returns
returns c = unchanged
