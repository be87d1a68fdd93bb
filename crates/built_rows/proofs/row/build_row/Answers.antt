use Rattle.std.proofs.Common.{refl, ap, sym, subst, arith}
use Rattle.progress_words.specs.Passes.{view}
use Rattle.line_words.specs.Places.{UnitAt}
use Rattle.done_units.specs.FlightWaits.{HoldsUnit}
use Rattle.row_waits.specs.Pictures.{IsUnitOf}
use Rattle.built_rows.specs.Stages.{StandsAt}
use Rattle.built_rows.proofs.Going.{goes_on}
use Rattle.built_rows.proofs.Inside.{columns_are, some_across}
use Rattle.built_rows.proofs.row.build_row.Goals as goal

pub new-first-requires-clause-unit : goal.new-first-requires-clause-unit
new-first-requires-clause-unit g c =
    let across = columns_are c.args.board.now.flight c.args.picture.now c.requires.picture in
    let some = some_across c.args.board.now.flight c.args.picture.now c.requires.picture in
    omega (arith, across, some)

pub begin_row-requires-clause-unit : goal.begin_row-requires-clause-unit
begin_row-requires-clause-unit g c =
    subst (λ (u : UnitAt). IsUnitOf c.args.picture.now u) (sym c.new-first.ensures)
    (record { sizes = refl; phase = refl; place = refl })

pub begin_row-requires-clause-first : goal.begin_row-requires-clause-first
begin_row-requires-clause-first g c = ap (λ (u : UnitAt). u.unit) c.new-first.ensures

pub begin_row-requires-clause-holds : goal.begin_row-requires-clause-holds
begin_row-requires-clause-holds g c =
    subst (λ (u : UnitAt). HoldsUnit (view c.args.start) u) (sym c.new-first.ensures) c.requires.holds

pub build_units-requires-clause-stands : goal.build_units-requires-clause-stands
build_units-requires-clause-stands g c =
    subst
    (λ (u : UnitAt). StandsAt c.args.board.now.flight c.args.picture.now u (view c.begin_row.new.pass)
    c.begin_row.new.builder)
    c.new-first.ensures (c.begin_row.ensures.stands c.in-Ready.is)

pub build_units-requires-clause-own : goal.build_units-requires-clause-own
build_units-requires-clause-own g c = c.begin_row.ensures.kept.own

pub returns-in-Ready-clause-kept : goal.returns-in-Ready-clause-kept
returns-in-Ready-clause-kept g c =
    goes_on c.args.board.now c.args.picture.now c.args.start c.begin_row.new.pass c.build_units.result
    c.begin_row.new.builder c.build_units.new.builder c.begin_row.ensures.kept c.build_units.ensures.kept
