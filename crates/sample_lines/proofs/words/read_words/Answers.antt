use Rattle.std.proofs.Common.{◌≡◌, ◌∙◌, ℕ, ◌+◌, ◌-◌, ◌*◌, ◌%◌, ◌<◌, arith, ap, sym, subst, length, rules}
use Rattle.std.proofs.lemmas.List.Edits.{length-between}
use Rattle.sample_words.specs.declared.sizes.FlightSizes.{FlightSizes}
use Rattle.sample_words.specs.Packing.{lane}
use Rattle.sample_words.specs.Sizes.{line_words, samples_a_word}
use Rattle.sample_words.specs.Values.{sample_bits}
use Rattle.flight_facts.specs.SpecFlights.{expected}
use Rattle.progress_words.specs.declared.view.View.{View}
use Rattle.progress_words.specs.Views.{seen_of}
use Rattle.line_words.specs.Places.{HasSizes, number_at, word_at}
use Rattle.line_words.proofs.Words.{index_fits, knows_as_much}
use Rattle.flight_facts.specs.declared.flight_facts.FlightFacts.{FlightFacts}
use Rattle.flight_facts.specs.Boards.{board_flight}
use Rattle.flight_facts.specs.Facts.{flight_in}
use Rattle.flight_facts.proofs.Laid.{board_sizes}
use Rattle.sample_lines.proofs.Runs.{run_begins, run_length, run_starts, run_told}
use Rattle.sample_lines.proofs.words.read_words.Goals as goal

pub overflow_add-first : goal.overflow_add-first
overflow_add-first c =
    let facts = c.args.board.now.flight in
    let s = c.args.layout.now in
    let has = subst (λ (t : FlightSizes). HasSizes (board_flight (flight_in facts)) t) (sym c.requires.place)
    (board_sizes facts s c.requires.flight) in
    let k = c.loop-k.k in
    let count : ℕ = length c.args.out.now in
    let before =
    run_starts s c.samples_a_word.result k count c.samples_a_word.ensures.value c.loop-k-test.true in
    let few =
    index_fits (board_flight (flight_in facts)) c.args.at.now has c.requires.shape c.args.first (line_words s count)
    (16 * k) c.requires.inside before in
    search rules

pub read_few-requires-clause-seen : goal.read_few-requires-clause-seen
read_few-requires-clause-seen c =
    let at = c.args.at.now in
    subst (λ (v : View FlightFacts). at.unit < seen_of v (number_at at)) (sym c.loop-k.invariant.knows.1)
    c.requires.seen

pub loop-k-preserved : goal.loop-k-preserved
loop-k-preserved c =
    let s = c.args.layout.now in
    let n = samples_a_word s in
    let r = c.samples_a_word.result in
    let e = c.samples_a_word.ensures.value in
    let k = c.loop-k.k in
    let i = c.loop-k.invariant in
    let same = i.count in
    let end = c.min-end.result in
    let is = c.min-end.ensures in
    let begin = run_begins s r k (length c.args.out.now) e c.loop-k-test.true in
    let some : 16 * r * k < length c.loop-k.out = omega (arith, begin, same) in
    let count : length c.read_few.new.out ≡ end - 16 * r * k =
    c.read_few.ensures.count ∙ length-between c.loop-k.out (16 * r * k) end (omega (arith, is)) in
    let f : ℕ → ℕ → ℕ = λ w j. lane (sample_bits s)
    (expected (flight_in c.args.board.now.flight) (word_at c.args.at.now (c.args.first + w))) j in
    record {
      count = run_length s.deep r k end e c.loop-k.out c.read_few.new.out f some is count ∙ same;
      knows = knows_as_much c.args.pass.now c.loop-k.pass c.read_few.new.pass i.knows c.read_few.ensures.same;
      told = λ j inside less.
          run_told s.deep r k end e c.loop-k.out c.read_few.new.out f some is count
          (λ h lt before. i.told h (omega (arith, lt, same)) before)
          (λ h lt. c.read_few.ensures.value h (let l = c.read_few.ensures.count in omega (arith, lt, l))
          ∙ ap (λ (w : ℕ). lane (sample_bits s)
          (expected (flight_in c.args.board.now.flight) (word_at c.args.at.now w)) (h % n))
          (omega arith))
          j (omega (arith, inside, same)) less;
    }
