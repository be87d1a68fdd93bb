use Rattle.std.proofs.Common.{All, subst, sym}
use Rattle.std.proofs.lemmas.List.Elements.{All-nil}
use Rattle.flight_plan.specs.Flight.{IsEarlier}
use Rattle.flight_plan.specs.declared.row_range.RowRange.{RowRange}
use Rattle.unit_reach.specs.Ranges.{one}
use Rattle.row_waits.specs.Seen.{HasRange}
use Rattle.row_waits.proofs.Rows.{base_range, earlier_picture, flight_range}
use Rattle.row_waits.proofs.Waited.{not_looked}
use Rattle.row_waits.proofs.reach.wait_for_range.Goals as goal

pub wait_for_rows-requires-clause-earlier : goal.wait_for_rows-requires-clause-earlier
wait_for_rows-requires-clause-earlier g c =
    let k = c.args.at.now.line.picture in
    earlier_picture k c.in-Some.range c.in-Flight.other c.in-Flight.is
    (subst (λ o. All (λ (r : RowRange). IsEarlier k r.picture) (one o)) c.in-Some.is c.requires.earlier)

pub returns-in-None-clause-ready : goal.returns-in-None-clause-ready
returns-in-None-clause-ready g c ready =
    subst (λ o. All (HasRange c.args.picture.now.layout.now c.args.seen.now) (one o)) (sym c.in-None.is)
    (All-nil (HasRange c.args.picture.now.layout.now c.args.seen.now))

pub returns-in-None-clause-looked : goal.returns-in-None-clause-looked
returns-in-None-clause-looked g c = not_looked c.args.at.now c.args.pass.now c.args.seen.now

pub returns-in-Base-clause-ready : goal.returns-in-Base-clause-ready
returns-in-Base-clause-ready g c ready =
    subst (λ o. All (HasRange c.args.picture.now.layout.now c.args.seen.now) (one o)) (sym c.in-Some.is)
    (base_range c.args.picture.now.layout.now c.args.seen.now c.in-Some.range _ c.in-Base.is)

pub returns-in-Base-clause-looked : goal.returns-in-Base-clause-looked
returns-in-Base-clause-looked g c = not_looked c.args.at.now c.args.pass.now c.args.seen.now

pub returns-in-Flight-clause-ready : goal.returns-in-Flight-clause-ready
returns-in-Flight-clause-ready g c ready =
    subst (λ o. All (HasRange c.args.picture.now.layout.now c.wait_for_rows.new.seen) (one o)) (sym c.in-Some.is)
    (flight_range c.args.picture.now.layout.now c.wait_for_rows.new.seen c.in-Some.range c.in-Flight.other
    c.rows_end-end.result c.in-Flight.is c.rows_end-end.ensures (c.wait_for_rows.ensures.ready ready))
