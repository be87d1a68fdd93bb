use Rattle.std.proofs.Common.{◌-◌, ap, refl, arith}
use Rattle.hv_base.specs.declared.line.Line.{Line}
use Rattle.built_rows.proofs.Below.{alone_there, begun, none_stored, second_seen, stored_there}
use Rattle.built_rows.proofs.beginning.begin_with_stored.Goals as goal

pub read_stored-builder-requires-clause-seen : goal.read_stored-builder-requires-clause-seen
read_stored-builder-requires-clause-seen c =
    let two = c.if-columns-ge2.true in
    let many = c.columns.ensures.value in
    second_seen c.args.board.now c.args.picture.now c.args.at.now c.args.pass.now c.args.builder.now
    c.requires.begins c.line-row.ensures.unit (c.line-row.result.row - 1)
    (ap (λ (l : Line). l.row - 1) c.line-row.ensures.value) (omega (arith, two, many))

pub returns-then-columns-ge2-clause-stands : goal.returns-then-columns-ge2-clause-stands
returns-then-columns-ge2-clause-stands c =
    let two = c.if-columns-ge2.true in
    let many = c.columns.ensures.value in
    let r = c.begin_row.new.self in
    begun c.args.board.now c.args.picture.now c.args.at.now c.args.pass.now c.args.builder.now c.requires.begins
    c.line-row.ensures.unit c.read_stored-builder.new.pass r c.read_stored-builder.result
    c.read_stored-builder.ensures.pass c.begin_row.ensures.plan
    (alone_there c.args.board.now c.args.picture.now c.args.at.now c.args.pass.now c.args.builder.now
    c.requires.begins c.line-row.ensures.unit r c.requires.sync c.begin_row.ensures.stands)
    (stored_there c.args.board.now c.args.picture.now c.args.at.now c.args.pass.now c.args.builder.now
    c.requires.begins c.line-row.ensures.unit (c.line-row.result.row - 1)
    (ap (λ (l : Line). l.row - 1) c.line-row.ensures.value) c.read_stored-builder.result (omega (arith, two, many))
    c.read_stored-builder.ensures.value)

pub returns-else-columns-ge2-clause-stands : goal.returns-else-columns-ge2-clause-stands
returns-else-columns-ge2-clause-stands c =
    let narrow = c.if-columns-ge2.false in
    let many = c.columns.ensures.value in
    let r = c.begin_row.new.self in
    begun c.args.board.now c.args.picture.now c.args.at.now c.args.pass.now c.args.builder.now c.requires.begins
    c.line-row.ensures.unit c.args.pass.now r c.args.builder.now.stored (refl, refl) c.begin_row.ensures.plan
    (alone_there c.args.board.now c.args.picture.now c.args.at.now c.args.pass.now c.args.builder.now
    c.requires.begins c.line-row.ensures.unit r c.requires.sync c.begin_row.ensures.stands)
    (none_stored c.args.board.now c.args.picture.now c.args.at.now c.args.pass.now c.args.builder.now
    c.requires.begins c.line-row.ensures.unit c.args.builder.now.stored (omega (arith, narrow, many)))
