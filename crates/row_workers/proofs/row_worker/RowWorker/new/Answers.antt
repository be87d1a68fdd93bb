use Rattle.std.proofs.Common.{arith}
use Rattle.row_workers.proofs.Ready.{format_of, ready_more, room_for_all}
use Rattle.row_workers.proofs.row_worker.RowWorker.new.Goals as goal

pub returns : goal.returns
returns c = record {
  ready = λ facts seen view.
      let first = c.picture-first in
      let is = first.ensures.picture facts view in
      let filters = c.filters in
      let same =
      format_of facts c.args.views.now view first.result is 0 first.ensures.place filters.result.now
      filters.ensures.value in
      record {
        views = view;
        builder = λ q w other more.
            ready_more facts first.result q w w c.in_ok-builder.builder is other (λ l. omega arith)
            (c.in_ok-builder.ensures facts w is);
        memory =
            room_for_all facts first.result is filters.result.now same c.in_ok-memory.memory
            c.in_ok-memory.ensures;
      };
}
