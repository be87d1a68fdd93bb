use Rattle.made_motion_laws.proofs.Units.{first_is, four_keep, merge_keeps, one_keeps, vectors_keep}
use Rattle.made_motion_laws.proofs.laws.units_keep_one_motion.Goals as goal

pub returns : goal.returns
returns c = record { merge = merge_keeps; vectors = vectors_keep; first = first_is; four = four_keep; one = one_keeps }
