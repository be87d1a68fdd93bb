use Rattle.done_units.proofs.Standing.{may_pack}
use Rattle.done_units.proofs.places.write_modes.Goals as goal

pub places_across-count-requires : goal.places_across-count-requires
places_across-count-requires c =
    (may_pack c.args.board.now.flight c.args.at.now c.args.done.now c.requires.flight c.requires.done).column
