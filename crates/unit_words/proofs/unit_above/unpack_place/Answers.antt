use Rattle.unit_words.proofs.Places.{place_found}
use Rattle.unit_words.proofs.unit_above.unpack_place.Goals as goal

pub returns : goal.returns
returns c =
    place_found c.args.vectors c.args.modes c.unpack_modes-place.result c.unpack_motion.result c.inter_motion.result
    c.unpack_modes-place.ensures c.unpack_motion.ensures c.inter_motion.ensures
