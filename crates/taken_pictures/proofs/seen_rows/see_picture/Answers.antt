use Rattle.std.proofs.Common.{ℕ, ◌-◌, ◌<◌, subst, arith}
use Rattle.hv_base.specs.declared.line.Phase.TheVariants.{S}
use Rattle.progress_words.specs.Faults.{unit_in}
use Rattle.progress_words.specs.Passes.{view}
use Rattle.taken_pictures.proofs.Pictures.{final_unit, last_unit, picture_line}
use Rattle.taken_pictures.proofs.Seen.{rows_more, sees_on, sees_same}
use Rattle.taken_pictures.proofs.seen_rows.see_picture.Goals as goal

pub unit_number-last-requires-clause-line : goal.unit_number-last-requires-clause-line
unit_number-last-requires-clause-line g c =
    let count = c.rows-rows.ensures.value in
    let some = c.rows-rows.ensures.some in
    picture_line c.args.layout.now c.final_line-lowest.result S c.args.picture (c.rows-rows.result - 1)
    c.final_line-lowest.ensures c.requires.picture (omega (arith, count, some))

pub unit_number-last-requires-clause-unit : goal.unit_number-last-requires-clause-unit
unit_number-last-requires-clause-unit g c =
    final_unit c.args.layout.now c.final_line-lowest.result c.args.picture (c.rows-rows.result - 1)
    c.final_line-lowest.ensures

pub see_row-requires-clause-row : goal.see_row-requires-clause-row
see_row-requires-clause-row g c =
    let test = c.loop-row-test.true in
    let count = c.rows-rows.ensures.value in
    omega (arith, test, count)

pub loop-row-init : goal.loop-row-init
loop-row-init g c =
    record {
      own = c.requires.own;
      kept = sees_same (view c.args.pass.now);
      known = c.requires.known;
      seen = λ row below. absurd (omega (arith, below));
    }

pub loop-row-preserved : goal.loop-row-preserved
loop-row-preserved g c =
    let i = c.loop-row.invariant in
    let s = c.args.layout.now in
    let told = c.see_row.ensures in
    record {
      own = told.own;
      kept = sees_on (view c.args.pass.now) (view c.loop-row.pass) (view c.see_row.new.pass) i.kept told.kept;
      known = told.known;
      seen = rows_more s (view c.loop-row.pass) (view c.see_row.new.pass) c.args.picture c.loop-row.row told.kept
          i.seen (told.ready c.in-Ready.is);
    }

pub returns-in-Stopped-clause-stopped : goal.returns-in-Stopped-clause-stopped
returns-in-Stopped-clause-stopped g c = λ is.
    let told = c.see_row.ensures.stopped c.in-Stopped.is in
    let last = last_unit c.args.layout.now c.final_line-lowest.result c.args.picture c.rows-rows.result
    c.unit_number-last.result c.final_line-lowest.ensures c.rows-rows.ensures.value c.unit_number-last.ensures in
    (subst (λ (n : ℕ). unit_in (view c.see_row.new.pass).least < n) last told.0, told.1)

pub returns-in-Stopped-clause-kept : goal.returns-in-Stopped-clause-kept
returns-in-Stopped-clause-kept g c =
    sees_on (view c.args.pass.now) (view c.loop-row.pass) (view c.see_row.new.pass) c.loop-row.invariant.kept
    c.see_row.ensures.kept

pub returns-clause-ready : goal.returns-clause-ready
returns-clause-ready g c = λ is row below.
    let count = c.rows-rows.ensures.value in
    let test = c.loop-row-test.false in
    c.loop-row.invariant.seen row (omega (arith, below, count, test))
