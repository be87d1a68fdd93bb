use Rattle.std.proofs.Common.{◌≡◌, ◌∙◌, ℕ, ◌+◌, ◌*◌, arith, ap, subst}
use Rattle.sample_words.specs.Sizes.{line_words}
use Rattle.progress_words.specs.declared.view.View.{View}
use Rattle.progress_words.specs.Passes.{Knows, view}
use Rattle.progress_words.specs.Views.{seen_of}
use Rattle.line_words.specs.Passes.{writing_run}
use Rattle.line_words.specs.Places.{number_at}
use Rattle.flight_facts.specs.declared.flight_facts.FlightFacts.{FlightFacts}
use Rattle.flight_facts.specs.Boards.{flight_meaning}
use Rattle.flight_facts.specs.Facts.{flight_in}
use Rattle.sample_lines.specs.Lines.{height_at, width_at}
use Rattle.sample_lines.proofs.Indexes.{line_start}
use Rattle.sample_lines.proofs.WrittenWords.{knows_more, next_kept, nothing_written, written_kept}
use Rattle.sample_lines.proofs.writing.write_lines.Goals as goal

pub loop-y-init : goal.loop-y-init
loop-y-init c =
    nothing_written c.args.pass.now (0 * line_words c.args.layout.now (width_at c.args.at.now c.args.c)) (omega arith)

pub write_line-requires-clause-next : goal.write_line-requires-clause-next
write_line-requires-clause-next c =
    next_kept (flight_meaning (flight_in c.args.board.now.flight)) c.args.pass.now c.loop-y.pass
    (number_at c.args.at.now) (c.loop-y.y * line_words c.args.layout.now (width_at c.args.at.now c.args.c))
    c.loop-y.invariant c.requires.next

pub write_line-requires-clause-unit : goal.write_line-requires-clause-unit
write_line-requires-clause-unit c =
    ap (λ (v : View FlightFacts). seen_of v (number_at c.args.at.now)) c.loop-y.invariant.1 ∙ c.requires.unit

pub write_line-requires-clause-written : goal.write_line-requires-clause-written
write_line-requires-clause-written c =
    let s = c.args.layout.now in
    let n = c.args.c in
    let words : ℕ = c.loop-y.y * line_words s (width_at c.args.at.now n) in
    let before = c.requires.written in
    written_kept c.args.pass.now c.loop-y.pass words c.loop-y.invariant
    ∙ (ap (λ (m : ℕ). m + words) before ∙ line_start c.args.at.now s c.requires.place n c.loop-y.y)

pub loop-y-preserved : goal.loop-y-preserved
loop-y-preserved c =
    let words : ℕ = line_words c.args.layout.now (width_at c.args.at.now c.args.c) in
    let y = c.loop-y.y in
    knows_more c.args.pass.now c.loop-y.pass c.write_line.new.pass (y * words) words ((y + 1) * words)
    c.loop-y.invariant c.write_line.ensures (omega arith)

pub returns : goal.returns
returns c =
    let words : ℕ = line_words c.args.layout.now (width_at c.args.at.now c.args.c) in
    let is = c.height_at-height.ensures.value in
    let all : c.loop-y.y ≡ height_at c.args.at.now c.args.c =
    omega (arith, c.loop-y-test.false, c.loop-y.auto.y-end, is) in
    subst
    (λ (n : ℕ). Knows c.args.pass.now c.loop-y.pass (writing_run (view c.args.pass.now) (n * words)))
    all c.loop-y.invariant
