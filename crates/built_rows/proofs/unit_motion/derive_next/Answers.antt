use Rattle.std.proofs.Common.{ap, sym, subst, ◌∙◌}
use Rattle.border_words.specs.PictureFilters.{IsUnit}
use Rattle.spec_slice_data.specs.Segment.{PictureShape}
use Rattle.progress_words.specs.Passes.{view}
use Rattle.border_words.specs.RowBorders.{Bordering}
use Rattle.built_rows.proofs.Current.{collocated_before, each_has, number_less}
use Rattle.built_rows.proofs.Going.{goes_on}
use Rattle.built_rows.proofs.Standing.{has_read_at, left_at, reads_on, waits_on, works_at}
use Rattle.built_rows.proofs.Working.{works_on}
use Rattle.built_rows.proofs.unit_motion.derive_next.Goals as goal

pub segment_at-segment-requires : goal.segment_at-segment-requires
segment_at-segment-requires g c =
    let r = c.requires in
    number_less c.args.board.now.flight c.args.picture.now r.picture c.args.at.now r.working.unit
    c.line-line.ensures.unit (view c.args.pass.now) c.args.builder.now r.read c.segment_number.result
    c.segment_number.ensures

pub unit_of-requires : goal.unit_of-requires
unit_of-requires g c = c.requires.working.unit

pub stand_at-requires : goal.stand_at-requires
stand_at-requires g c =
    ap (λ (q : PictureShape). q.across) (c.unit_of.ensures.unit.layout ∙ sym c.requires.working.layout)

pub wait_for_collocated-requires-clause-unit : goal.wait_for_collocated-requires-clause-unit
wait_for_collocated-requires-clause-unit g c = c.requires.working.unit

pub wait_for_collocated-requires-clause-known : goal.wait_for_collocated-requires-clause-known
wait_for_collocated-requires-clause-known g c = c.requires.working.known

pub wait_for_collocated-requires-clause-earlier : goal.wait_for_collocated-requires-clause-earlier
wait_for_collocated-requires-clause-earlier g c =
    let r = c.requires in
    collocated_before c.args.board.now.flight c.args.picture.now r.picture c.args.at.now r.working.unit
    c.line-line.ensures.unit (view c.args.pass.now) c.args.builder.now r.read c.segment_number.result
    c.segment_number.ensures c.segment_at-segment.result.now c.segment_at-segment.ensures

pub derive_seen-requires-clause-working : goal.derive_seen-requires-clause-working
derive_seen-requires-clause-working g c =
    let r = c.requires in
    let w = c.wait_for_collocated.ensures in
    works_on c.args.board.now.flight c.args.picture.now c.args.at.now (view c.args.pass.now)
    (view c.wait_for_collocated.new.pass) _
    (works_at c.args.board.now.flight c.args.picture.now c.args.at.now (view c.args.pass.now) c.args.builder.now
    c.stand_at.new.self c.unit_of.result c.stand_at.ensures c.unit_of.ensures.unit.layout r.working)
    w.waited w.known

pub derive_seen-requires-clause-read : goal.derive_seen-requires-clause-read
derive_seen-requires-clause-read g c =
    let r = c.requires in
    let w = c.wait_for_collocated.ensures in
    reads_on c.args.board.now c.args.picture.now c.args.at.now c.args.pass.now c.wait_for_collocated.new.pass _ w.waited
    (has_read_at c.args.board.now.flight c.args.picture.now c.args.at.now (view c.args.pass.now) c.args.builder.now
    c.stand_at.new.self c.unit_of.result c.stand_at.ensures r.read)

pub derive_seen-requires-clause-left : goal.derive_seen-requires-clause-left
derive_seen-requires-clause-left g c =
    let r = c.requires in
    left_at c.args.board.now.flight c.args.picture.now c.args.at.now (view c.args.pass.now) c.args.builder.now
    c.stand_at.new.self c.unit_of.result c.stand_at.ensures r.left

pub derive_seen-requires-clause-segment : goal.derive_seen-requires-clause-segment
derive_seen-requires-clause-segment g c =
    let r = c.requires in
    each_has c.args.board.now.flight c.args.picture.now r.picture c.args.at.now r.working.unit
    c.line-line.ensures.unit (view c.args.pass.now) c.args.builder.now r.read c.segment_number.result
    c.segment_number.ensures c.segment_at-segment.result.now c.segment_at-segment.ensures

pub derive_seen-requires-clause-unit : goal.derive_seen-requires-clause-unit
derive_seen-requires-clause-unit g c =
    subst (λ (q : Bordering). IsUnit c.args.picture.now.plan.now c.segment_at-segment.result.now q.unit)
    (sym c.stand_at.ensures) c.unit_of.ensures.unit

pub derive_seen-requires-clause-address : goal.derive_seen-requires-clause-address
derive_seen-requires-clause-address g c =
    ap (λ (q : Bordering). q.unit.address) c.stand_at.ensures ∙ c.unit_of.ensures.address

pub derive_seen-requires-clause-seen : goal.derive_seen-requires-clause-seen
derive_seen-requires-clause-seen g c = c.wait_for_collocated.ensures.ready c.in-Ready.is

pub returns-in-Ready-clause-kept : goal.returns-in-Ready-clause-kept
returns-in-Ready-clause-kept g c =
    let r = c.requires in
    let w = c.wait_for_collocated.ensures in
    goes_on c.args.board.now c.args.picture.now c.args.pass.now c.wait_for_collocated.new.pass c.derive_seen.new.pass _
    c.derive_seen.new.builder
    (waits_on c.args.board.now c.args.picture.now c.args.at.now c.args.pass.now c.wait_for_collocated.new.pass _
    w.waited
    (works_at c.args.board.now.flight c.args.picture.now c.args.at.now (view c.args.pass.now) c.args.builder.now
    c.stand_at.new.self c.unit_of.result c.stand_at.ensures c.unit_of.ensures.unit.layout r.working)
    w.own w.known)
    c.derive_seen.ensures.kept

pub returns-in-Stopped-clause-ended : goal.returns-in-Stopped-clause-ended
returns-in-Stopped-clause-ended g c stopped =
    c.wait_for_collocated.ensures.ended c.in-Stopped.is c.requires.working.holds

pub returns-in-Stopped-clause-kept : goal.returns-in-Stopped-clause-kept
returns-in-Stopped-clause-kept g c =
    let r = c.requires in
    let w = c.wait_for_collocated.ensures in
    waits_on c.args.board.now c.args.picture.now c.args.at.now c.args.pass.now c.wait_for_collocated.new.pass _ w.waited
    (works_at c.args.board.now.flight c.args.picture.now c.args.at.now (view c.args.pass.now) c.args.builder.now
    c.stand_at.new.self c.unit_of.result c.stand_at.ensures c.unit_of.ensures.unit.layout r.working)
    w.own w.known
