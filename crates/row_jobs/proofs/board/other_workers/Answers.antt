use Rattle.std.proofs.Common.{All, List, rules, subst, sym}
use Rattle.std.proofs.lemmas.List.Elements.{All-push}
use Rattle.row_workers.specs.declared.row_worker.RowWorker.{RowWorker}
use Rattle.row_jobs.specs.Boards.{MayBegin}
use Rattle.row_jobs.proofs.board.other_workers.Goals as goal

pub loop-preserved : goal.loop-preserved
loop-preserved c = record {
  count = search rules;
  ready = subst (λ (ws : List RowWorker). All (MayBegin c.args.views.now) ws) (sym c.in_ok-push.ensures.items)
      (All-push (MayBegin c.args.views.now) c.loop.workers.items c.in_ok-new.field-0 c.loop.invariant.ready
      c.in_ok-new.ensures.ready);
}
