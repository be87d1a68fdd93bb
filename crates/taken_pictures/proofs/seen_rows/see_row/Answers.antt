use Rattle.hv_base.specs.declared.line.Phase.TheVariants.{B, S}
use Rattle.progress_words.specs.Passes.{view}
use Rattle.taken_pictures.proofs.Pictures.{picture_line}
use Rattle.taken_pictures.proofs.Seen.{row_is_seen, sees_on}
use Rattle.taken_pictures.proofs.seen_rows.see_row.Goals as goal

pub see_line-requires-clause-line : goal.see_line-requires-clause-line
see_line-requires-clause-line g c =
    picture_line c.args.layout.now c.built_line-built.result B c.args.picture c.args.row c.built_line-built.ensures
    c.requires.picture c.requires.row

pub see_line-requires-in-Ready-clause-line : goal.see_line-requires-in-Ready-clause-line
see_line-requires-in-Ready-clause-line g c =
    picture_line c.args.layout.now c.final_line-last.result S c.args.picture c.args.row c.final_line-last.ensures
    c.requires.picture c.requires.row

pub returns-in-Ready-clause-ready : goal.returns-in-Ready-clause-ready
returns-in-Ready-clause-ready g c = λ is.
    let s = c.args.layout.now in
    let first = c.see_line.ensures.ready c.in-Ready.is in
    let second = c.see_line-in-Ready.ensures.ready is in
    row_is_seen s (view c.see_line.new.pass) (view c.see_line-in-Ready.new.pass) c.args.picture c.args.row
    c.built_line-built.result c.final_line-last.result c.columns-columns.result c.built_line-built.ensures
    c.final_line-last.ensures c.columns-columns.ensures.value c.see_line-in-Ready.ensures.kept first second

pub returns-in-Ready-clause-kept : goal.returns-in-Ready-clause-kept
returns-in-Ready-clause-kept g c =
    sees_on (view c.args.pass.now) (view c.see_line.new.pass) (view c.see_line-in-Ready.new.pass)
    c.see_line.ensures.kept
    c.see_line-in-Ready.ensures.kept
