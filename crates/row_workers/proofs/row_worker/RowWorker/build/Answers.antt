use Rattle.std.proofs.Common.{ap, ◌∙◌, arith}
use Rattle.header_types.specs.declared.sps.SpsFields.{SpsFields}
use Rattle.filtered_rows.specs.PictureBuild.{buffer_of}
use Rattle.spec_picture_build.specs.References.{pictures_of}
use Rattle.progress_words.specs.Passes.{view}
use Rattle.row_workers.proofs.Lines.{bases_are}
use Rattle.row_workers.proofs.Ready.{ready_more}
use Rattle.row_workers.proofs.row_worker.RowWorker.build.Goals as goal

pub build_row-requires-clause-bases : goal.build_row-requires-clause-bases
build_row-requires-clause-bases g c =
    let facts = c.args.board.now.flight in
    let picture = c.picture-picture in
    let is = picture.ensures.picture facts c.requires.ready.views in
    let bases = c.new-bases in
    ap (λ (s : SpsFields). pictures_of s.format (buffer_of bases.result.bases.now))
    (bases.ensures.sps ∙ c.deref.ensures)
    ∙ bases_are facts picture.result.plan.now.sps.format bases.result.bases.now
    (ap buffer_of bases.ensures.value ∙ is.bases)

pub build_row-requires-clause-ready : goal.build_row-requires-clause-ready
build_row-requires-clause-ready g c =
    let picture = c.picture-picture in
    c.requires.ready.builder picture.result (view c.args.pass)
    (picture.ensures.picture c.args.board.now.flight c.requires.ready.views) (λ l. omega arith)

pub returns-clause-ready : goal.returns-clause-ready
returns-clause-ready g c =
    let facts = c.args.board.now.flight in
    let picture = c.picture-picture in
    let is = picture.ensures.picture facts c.requires.ready.views in
    let built = c.build_row in
    record {
      views = c.requires.ready.views;
      builder = λ q w other more.
          ready_more facts picture.result q (view built.result) w built.new.builder is other more
          built.ensures.kept.ready;
      memory = c.requires.ready.memory;
    }
