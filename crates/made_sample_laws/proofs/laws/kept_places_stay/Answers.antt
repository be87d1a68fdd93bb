use Rattle.made_sample_laws.proofs.Kept.{final_kept}
use Rattle.made_sample_laws.proofs.laws.kept_places_stay.Goals as goal

pub returns : goal.returns
returns c = final_kept
