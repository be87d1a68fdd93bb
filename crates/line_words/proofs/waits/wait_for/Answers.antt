use Rattle.std.proofs.Common.{arith, sym, ◌∙◌}
use Rattle.progress_words.specs.Passes.{view}
use Rattle.flight_lines.specs.Numbers.{numbered_needs}
use Rattle.line_words.proofs.Waiting.{goes_on, next_line, stops}
use Rattle.line_words.proofs.waits.wait_for.Goals as goal

pub wait_line-requires-clause-line : goal.wait_line-requires-clause-line
wait_line-requires-clause-line g c =
    let key = c.args.board.now.flight in
    next_line (g.F.Facts.meaning key) (g.F.RowFacts.flight key) (g.met.F.RowFacts.meant key) c.args.layout.now
    c.requires.flight c.args.needs.now c.requires.lines c.loop.index c.in-Some-need_at.line c.in-Some-need_at.count
    (sym c.need_at.ensures ∙ c.in-Some-need_at.is)

pub loop-preserved : goal.loop-preserved
loop-preserved g c =
    let key = c.args.board.now.flight in
    let M = g.F.Facts.meaning key in
    let has = sym c.need_at.ensures ∙ c.in-Some-need_at.is in
    let line = next_line M (g.F.RowFacts.flight key) (g.met.F.RowFacts.meant key) c.args.layout.now
    c.requires.flight c.args.needs.now c.requires.lines c.loop.index c.in-Some-need_at.line c.in-Some-need_at.count
    has in
    let e = c.saturating_add-index.ensures in
    record {
      own = c.wait_line.ensures.kept.0;
      come = goes_on M (view c.args.pass.now) (numbered_needs c.args.layout.now c.args.needs.now) c.loop.index
          c.saturating_add-index.result c.in-Some-need_at.line c.in-Some-need_at.count (view c.loop.pass)
          (view c.wait_line.new.pass) (omega (arith, e)) c.loop.invariant.come line has c.wait_line.ensures.kept.1
          c.wait_line.ensures.sound (c.wait_line.ensures.ready c.in-Ready.is);
    }

pub returns-in-Stopped-clause-kept : goal.returns-in-Stopped-clause-kept
returns-in-Stopped-clause-kept g c = (
  c.wait_line.ensures.kept.0,
  stops (g.F.Facts.meaning c.args.board.now.flight) (view c.args.pass.now)
      (numbered_needs c.args.layout.now c.args.needs.now) c.loop.index c.in-Some-need_at.line
      c.in-Some-need_at.count (view c.loop.pass) (view c.wait_line.new.pass) c.loop.invariant.come
      (sym c.need_at.ensures ∙ c.in-Some-need_at.is) c.wait_line.ensures.kept.1,
)
