use Rattle.std.proofs.Common.{◌<◌, ◌∙◌, ap, sym, arith}
use Rattle.hv_base.specs.declared.line.Line.{Line}
use Rattle.header_types.specs.SequenceParameterSets.{width_in_ctbs}
use Rattle.progress_words.specs.Passes.{view}
use Rattle.row_waits.specs.Pictures.{address_in}
use Rattle.built_rows.proofs.Begun.{stands_first, works_first}
use Rattle.built_rows.proofs.First.{begins_here, none_at_top, stands_alone, top_begins_alone}
use Rattle.built_rows.proofs.Inside.{column_inside}
use Rattle.built_rows.proofs.beginning.begin_row.Goals as goal

pub returns-then-line-eq0-clause-stands : goal.returns-then-line-eq0-clause-stands
returns-then-line-eq0-clause-stands g c ready =
    let picture = c.args.picture.now in
    let at = c.args.at.now in
    let p = picture.plan.now in
    let b = c.begin.new.self in
    let r = c.begin_row.new.self in
    let e = c.begin.ensures in
    let here = c.line.ensures.value in
    let test = c.if-line-eq0.true in
    let top = sym (ap (λ (l : Line). l.row) here) ∙ test in
    let inside = column_inside c.args.board.now.flight picture c.requires.picture at c.requires.unit c.line.ensures.unit
    in
    let some : 0 < width_in_ctbs p.sps = omega (arith, inside) in
    stands_first c.args.board.now.flight picture at (view c.args.pass.now) (record b { reader = r })
    (works_first c.args.board.now.flight picture at (view c.args.pass.now) c.args.builder.now
    (record b { reader = r }) c.requires.picture c.requires.unit c.requires.holds c.requires.written
    c.requires.known c.requires.ready (c.begin_row.ensures.plan ∙ e.plan) e.layout e.format e.seen)
    c.requires.first some
    (stands_alone b.reader.segments.plan p (address_in p at) r.reader r.left e.plan c.begin_row.ensures.stands
    (begins_here p at.line.row at.unit c.requires.first some)
    (top_begins_alone p at.line.row at.unit c.requires.first some top))
    (none_at_top p at.line.row at.unit c.requires.first some b.stored top)
