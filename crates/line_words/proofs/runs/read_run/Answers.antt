use Rattle.std.proofs.Common.{rules, arith, ◌≡◌, ◌+◌, ◌<◌, ◌∙◌, length}
use Rattle.std.proofs.lemmas.List.{length-set}
use Rattle.progress_words.specs.Passes.{view}
use Rattle.line_words.specs.Places.{word_at, words_at}
use Rattle.line_words.proofs.Words.{expected_at, index_fits, knows_as_much, one_laid, place_fits, seen_at}
use Rattle.line_words.proofs.runs.read_run.Goals as goal

pub overflow_add-first : goal.overflow_add-first
overflow_add-first g c =
    let few =
    index_fits (g.F.RowFacts.flight c.args.board.now.flight) c.args.at.now c.requires.flight c.start-start.ensures.unit
    c.args.first (length c.args.out.now) c.loop-k.k c.requires.inside c.loop-k-test.true in
    search rules

pub overflow_add-start : goal.overflow_add-start
overflow_add-start g c =
    let few =
    place_fits (g.F.RowFacts.flight c.args.board.now.flight) c.args.at.now c.requires.flight c.start-start.ensures.unit
    c.args.first (length c.args.out.now) c.loop-k.k c.requires.inside c.loop-k-test.true c.start-start.result
    c.start-start.ensures.value in
    search rules

pub read-requires-clause-seen : goal.read-requires-clause-seen
read-requires-clause-seen g c =
    let key = c.args.board.now.flight in
    let few = c.requires.inside in
    let test = c.loop-k-test.true in
    let inside : c.args.first + c.loop-k.k < words_at c.args.at.now = omega (arith, few, test) in
    seen_at (g.F.Facts.meaning key) (g.F.RowFacts.flight key) (g.met.F.RowFacts.meant key) c.args.at.now
    c.requires.flight c.start-start.ensures.unit c.start-start.result c.start-start.ensures.value
    (c.args.first + c.loop-k.k) inside (view c.args.pass.now) (view c.loop-k.pass) c.loop-k.invariant.knows.1
    c.requires.seen

pub loop-k-preserved : goal.loop-k-preserved
loop-k-preserved g c =
    let key = c.args.board.now.flight in
    let f = g.F.RowFacts.flight key in
    let u = c.args.at.now in
    let k = c.loop-k.k in
    let few = c.requires.inside in
    let test = c.loop-k-test.true in
    let inside : c.args.first + k < words_at u = omega (arith, few, test) in
    let i = c.loop-k.invariant in
    let count = i.count in
    let here : k < length c.loop-k.out = omega (arith, count, test) in
    let value : c.read.result ≡ f.expected (word_at u (c.args.first + k)) =
    c.read.ensures.value
    ∙ expected_at (g.F.Facts.meaning key) f (g.met.F.RowFacts.meant key) u c.requires.flight c.start-start.ensures.unit
    c.start-start.result c.start-start.ensures.value (c.args.first + k) inside in
    record {
      count = length-set c.loop-k.out k c.read.result ∙ i.count;
      knows = knows_as_much c.args.pass.now c.loop-k.pass c.read.new.pass i.knows c.read.ensures.same;
      values = one_laid c.loop-k.out k c.read.result (λ j. f.expected (word_at u (c.args.first + j))) here i.values
          value;
    }
