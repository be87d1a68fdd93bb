use Rattle.row_jobs.proofs.Boards.{may_fan_on}
use Rattle.row_jobs.proofs.board.work_and_take.Goals as goal

pub work_off-pass-requires-clause-may : goal.work_off-pass-requires-clause-may
work_off-pass-requires-clause-may g c κs within =
    may_fan_on c.args.opened.now c.args.views.now.layout c.args.start c.requires.start c.lend-board.result
    c.lend-board.ensures c.layout-layout.result.now c.layout-layout.ensures c.args.views.now c.args.first.now
    c.args.others.now c.requires.view c.requires.first c.requires.others c.requires.few
