use Rattle.row_waits.proofs.Rows.{earlier_reach}
use Rattle.row_waits.proofs.reach.wait_for_reach.Goals as goal

pub returns-else-source-le-LAST_ROW-clause-ready : goal.returns-else-source-le-LAST_ROW-clause-ready
returns-else-source-le-LAST_ROW-clause-ready g c ready i d less =
    earlier_reach c.args.picture.now.layout.now c.wait_for_earlier_pictures.new.seen c.args.at.now.line.picture
    c.args.source.now _ (c.wait_for_earlier_pictures.ensures.ready ready) (c.requires.earlier i d less)
