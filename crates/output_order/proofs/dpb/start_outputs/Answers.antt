use Rattle.output_order.proofs.Sizes.{start_room}
use Rattle.output_order.proofs.dpb.start_outputs.Goals as goal

pub returns-clause-left : goal.returns-clause-left
returns-clause-left c =
    start_room c.args.current c.args.pictures.now c.args.marks.now c.outputs_before.result c.outputs_before.ensures
    c.requires.room c.requires.anew
