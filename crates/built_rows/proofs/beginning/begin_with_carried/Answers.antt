use Rattle.std.proofs.Common.{◌-◌, ap}
use Rattle.hv_base.specs.declared.line.Line.{Line}
use Rattle.built_rows.proofs.Below.{all_seen, begun, behind_some, carries_there, carry_is, first_there, inside_there}
use Rattle.built_rows.proofs.Below.{none_carried, resumed_there}
use Rattle.built_rows.proofs.beginning.begin_with_carried.Goals as goal

pub read_carry-carry-requires-clause-seen : goal.read_carry-carry-requires-clause-seen
read_carry-carry-requires-clause-seen c =
    all_seen c.args.board.now c.args.picture.now c.args.at.now c.args.pass.now c.args.builder.now c.requires.begins
    c.line-row.ensures.unit (c.line-row.result.row - 1) (ap (λ (l : Line). l.row - 1) c.line-row.ensures.value)
    c.requires.sync

pub resume_row-requires-clause-some : goal.resume_row-requires-clause-some
resume_row-requires-clause-some c =
    behind_some c.args.board.now c.args.picture.now c.args.at.now c.args.pass.now c.args.builder.now
    c.requires.begins c.line-row.ensures.unit c.address.result c.address.ensures.value

pub resume_row-requires-clause-first : goal.resume_row-requires-clause-first
resume_row-requires-clause-first c =
    first_there c.args.board.now c.args.picture.now c.args.at.now c.args.pass.now c.args.builder.now
    c.requires.begins c.line-row.ensures.unit c.address.result c.address.ensures.value

pub resume_row-requires-clause-inside : goal.resume_row-requires-clause-inside
resume_row-requires-clause-inside c =
    inside_there c.args.board.now c.args.picture.now c.args.at.now c.args.pass.now c.args.builder.now
    c.requires.begins c.line-row.ensures.unit c.address.result c.address.ensures.value

pub resume_row-requires-clause-carried : goal.resume_row-requires-clause-carried
resume_row-requires-clause-carried c =
    carries_there c.args.board.now c.args.picture.now c.args.at.now c.args.pass.now c.args.builder.now
    c.requires.begins c.line-row.ensures.unit c.address.result c.address.ensures.value c.read_carry-carry.result
    (carry_is c.args.board.now c.args.picture.now c.args.at.now c.args.pass.now c.args.builder.now
    c.requires.begins c.line-row.ensures.unit (c.line-row.result.row - 1)
    (ap (λ (l : Line). l.row - 1) c.line-row.ensures.value) c.read_carry-carry.result c.requires.sync
    c.read_carry-carry.ensures.value)

pub returns-clause-stands : goal.returns-clause-stands
returns-clause-stands c =
    let r = c.resume_row.new.self in
    begun c.args.board.now c.args.picture.now c.args.at.now c.args.pass.now c.args.builder.now c.requires.begins
    c.line-row.ensures.unit c.read_carry-carry.new.pass r c.args.builder.now.stored c.read_carry-carry.ensures.pass
    c.resume_row.ensures.plan
    (resumed_there c.args.board.now c.args.picture.now c.args.at.now c.args.pass.now c.args.builder.now
    c.requires.begins c.line-row.ensures.unit c.address.result c.address.ensures.value r c.resume_row.ensures.stands)
    (none_carried c.args.board.now c.args.picture.now c.args.at.now c.args.pass.now c.args.builder.now
    c.requires.begins c.line-row.ensures.unit c.args.builder.now.stored c.requires.sync)
