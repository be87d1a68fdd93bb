use Rattle.std.proofs.Common.{rules, arith, ℕ, ◌+◌, ◌<◌, sym, ◌∙◌, length}
use Rattle.progress_words.specs.Passes.{view}
use Rattle.line_words.specs.Passes.{writing_run}
use Rattle.line_words.specs.Places.{number_at, words_at}
use Rattle.line_words.proofs.Words.{expected_at, index_fits, next_at, next_still, place_fits}
use Rattle.line_words.proofs.runs.write_run.Goals as goal

pub overflow_add-first : goal.overflow_add-first
overflow_add-first g c =
    let few =
    index_fits (g.F.RowFacts.flight c.args.board.now.flight) c.args.at.now c.requires.flight c.start-start.ensures.unit
    c.args.first (length c.args.words.now) c.loop-k.k c.requires.inside c.loop-k-test.true in
    search rules

pub overflow_add-start : goal.overflow_add-start
overflow_add-start g c =
    let few =
    place_fits (g.F.RowFacts.flight c.args.board.now.flight) c.args.at.now c.requires.flight c.start-start.ensures.unit
    c.args.first (length c.args.words.now) c.loop-k.k c.requires.inside c.loop-k-test.true c.start-start.result
    c.start-start.ensures.value in
    search rules

pub write-requires-clause-next : goal.write-requires-clause-next
write-requires-clause-next g c =
    let key = c.args.board.now.flight in
    let M = g.F.Facts.meaning key in
    let u = c.args.at.now in
    let v = view c.args.pass.now in
    let k = c.loop-k.k in
    let few = c.requires.inside in
    let test = c.loop-k-test.true in
    let inside : c.args.first + k < words_at u = omega (arith, few, test) in
    let written = c.requires.written in
    next_at M (g.F.RowFacts.flight key) (g.met.F.RowFacts.meant key) u c.requires.flight c.start-start.ensures.unit
    c.start-start.result c.start-start.ensures.value (c.args.first + k) inside (writing_run v k) (view c.loop-k.pass)
    c.loop-k.invariant.1 (next_still M v (number_at u) k c.requires.next) c.requires.unit (omega (arith, written))

pub write-requires-clause-value : goal.write-requires-clause-value
write-requires-clause-value g c =
    let key = c.args.board.now.flight in
    let u = c.args.at.now in
    let n : ℕ = c.args.first + c.loop-k.k in
    let few = c.requires.inside in
    let test = c.loop-k-test.true in
    let inside : n < words_at u = omega (arith, few, test) in
    c.requires.value c.loop-k.k c.loop-k-test.true
    ∙ sym (expected_at (g.F.Facts.meaning key) (g.F.RowFacts.flight key) (g.met.F.RowFacts.meant key) u
    c.requires.flight c.start-start.ensures.unit c.start-start.result c.start-start.ensures.value n inside)
