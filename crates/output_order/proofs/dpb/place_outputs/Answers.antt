use Rattle.output_order.proofs.Sizes.{place_room}
use Rattle.output_order.proofs.dpb.place_outputs.Goals as goal

pub returns-clause-left : goal.returns-clause-left
returns-clause-left c =
    place_room c.args.reorder c.args.picture c.args.pictures.now c.outputs_behind.result c.outputs_behind.ensures
