use Rattle.unit_words.proofs.Bottom.{bottom_found}
use Rattle.unit_words.proofs.unit_above.unpack_bottom.Goals as goal

pub returns : goal.returns
returns c =
    bottom_found c.args.modes.now c.args.offsets c.sides_in.result c.unpack_offsets.result c.sides_in.ensures
    c.unpack_offsets.ensures
