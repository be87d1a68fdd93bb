use Rattle.std.proofs.Common.{sym, subst, arith}
use Rattle.spec_loop_filters.specs.declared.format.FilterFormat.{FilterFormat}
use Rattle.filtered_rows.specs.Memory.{HasRoomFor}
use Rattle.row_workers.proofs.Ready.{format_of, room_for_all}
use Rattle.row_workers.proofs.row_worker.RowWorker.filter.Goals as goal

pub filter_row-requires-clause-memory : goal.filter_row-requires-clause-memory
filter_row-requires-clause-memory g c =
    let facts = c.args.board.now.flight in
    let ready = c.requires.ready in
    let picture = c.picture-picture in
    let is = picture.ensures.picture facts ready.views in
    let filters = c.filters-format in
    let same =
    format_of facts c.args.self.now.views.now ready.views picture.result is c.args.line.picture
    picture.ensures.place filters.result.now filters.ensures.value in
    subst (λ (f : FilterFormat). HasRoomFor f c.args.self.now.memory) (sym same)
    (ready.memory picture.result.place picture.result.plan.now is.plan)

pub returns-clause-ready : goal.returns-clause-ready
returns-clause-ready g c =
    let facts = c.args.board.now.flight in
    let ready = c.requires.ready in
    let picture = c.picture-picture in
    let is = picture.ensures.picture facts ready.views in
    let filters = c.filters-format in
    let same =
    format_of facts c.args.self.now.views.now ready.views picture.result is c.args.line.picture
    picture.ensures.place filters.result.now filters.ensures.value in
    let filtered = c.filter_row in
    record {
      views = ready.views;
      builder = λ q w other more.
          ready.builder q w other
          (λ l. let less = filtered.ensures.more l in let later = more l in omega (arith, less, later));
      memory =
          room_for_all facts picture.result is filters.result.now same filtered.new.memory
          filtered.ensures.memory;
    }
