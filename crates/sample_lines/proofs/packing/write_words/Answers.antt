use Rattle.std.proofs.Common.{◌≡◌, ◌∙◌, ℕ, ◌+◌, ◌-◌, ◌*◌, ◌/◌, ◌^◌, min, arith, ap, sym, subst, length, rules}
use Rattle.std.proofs.Common.{pow_pos}
use Rattle.std.specs.List.{between}
use Rattle.std.proofs.lemmas.List.Edits.{length-between}
use Rattle.sample_words.specs.declared.sizes.FlightSizes.{FlightSizes}
use Rattle.sample_words.specs.Sizes.{line_words}
use Rattle.sample_words.specs.Values.{sample_bits}
use Rattle.flight_facts.specs.SpecFlights.{expected}
use Rattle.progress_words.specs.declared.view.View.{View}
use Rattle.progress_words.specs.Passes.{Knows, view}
use Rattle.progress_words.specs.Views.{seen_of}
use Rattle.line_words.specs.Passes.{writing_run}
use Rattle.line_words.specs.Places.{HasSizes, number_at, word_at}
use Rattle.line_words.proofs.Words.{index_fits}
use Rattle.flight_facts.specs.declared.flight_facts.FlightFacts.{FlightFacts}
use Rattle.flight_facts.specs.Boards.{board_flight, flight_meaning}
use Rattle.flight_facts.specs.Facts.{flight_in}
use Rattle.flight_facts.proofs.Laid.{board_sizes}
use Rattle.sample_lines.proofs.PartWords.{between_small, word_in_all}
use Rattle.sample_lines.proofs.Runs.{run_before, run_begins, run_few, run_starts, run_within, run_words, runs_all}
use Rattle.sample_lines.proofs.WrittenWords.{knows_more, next_kept, nothing_written, written_kept}
use Rattle.sample_lines.proofs.packing.write_words.Goals as goal

pub overflow_add-first : goal.overflow_add-first
overflow_add-first c =
    let facts = c.args.board.now.flight in
    let s = c.args.layout.now in
    let has = subst (λ (t : FlightSizes). HasSizes (board_flight (flight_in facts)) t) (sym c.requires.place)
    (board_sizes facts s c.requires.flight) in
    let k = c.loop-k.k in
    let count : ℕ = length c.args.samples.now in
    let before =
    run_starts s c.samples_a_word.result k count c.samples_a_word.ensures.value c.loop-k-test.true in
    let few =
    index_fits (board_flight (flight_in facts)) c.args.at.now has c.requires.shape c.args.first (line_words s count)
    (16 * k) c.requires.inside before in
    search rules

pub loop-k-init : goal.loop-k-init
loop-k-init c =
    let total : ℕ = line_words c.args.layout.now (length c.args.samples.now) in
    nothing_written c.args.pass.now (min (16 * 0) total) (omega arith)

pub write_few-requires-clause-next : goal.write_few-requires-clause-next
write_few-requires-clause-next c =
    let total = line_words c.args.layout.now (length c.args.samples.now) in
    next_kept (flight_meaning (flight_in c.args.board.now.flight)) c.args.pass.now c.loop-k.pass
    (number_at c.args.at.now) (min (16 * c.loop-k.k) total) c.loop-k.invariant c.requires.next

pub write_few-requires-clause-unit : goal.write_few-requires-clause-unit
write_few-requires-clause-unit c =
    ap (λ (v : View FlightFacts). seen_of v (number_at c.args.at.now)) c.loop-k.invariant.1 ∙ c.requires.unit

pub write_few-requires-clause-written : goal.write_few-requires-clause-written
write_few-requires-clause-written c =
    let s = c.args.layout.now in
    let r = c.samples_a_word.result in
    let k = c.loop-k.k in
    let count : ℕ = length c.args.samples.now in
    let some = run_begins s r k count c.samples_a_word.ensures.value c.loop-k-test.true in
    let before = run_before s r k c.min-end.result count c.samples_a_word.ensures.value some c.min-end.ensures in
    let kept = written_kept c.args.pass.now c.loop-k.pass (min (16 * k) (line_words s count)) c.loop-k.invariant in
    let first = c.requires.written in
    omega (arith, before, kept, first)

pub write_few-requires-clause-inside : goal.write_few-requires-clause-inside
write_few-requires-clause-inside c =
    let s = c.args.layout.now in
    let r = c.samples_a_word.result in
    let k = c.loop-k.k in
    let end = c.min-end.result in
    let count : ℕ = length c.args.samples.now in
    let some = run_begins s r k count c.samples_a_word.ensures.value c.loop-k-test.true in
    let is = c.min-end.ensures in
    let inside = run_within s r k end count c.samples_a_word.ensures.value some is in
    let all = c.requires.inside in
    let part = ap (λ (n : ℕ). line_words s n)
    (length-between c.args.samples.now (16 * r * k) end (omega (arith, is))) in
    omega (arith, inside, all, part)

pub write_few-requires-clause-depth : goal.write_few-requires-clause-depth
write_few-requires-clause-depth c = λ i.
    let bits = sample_bits c.args.layout.now in
    let is = c.min-end.ensures in
    between_small c.args.samples.now (16 * c.samples_a_word.result * c.loop-k.k) c.min-end.result (2 ^ bits)
    (omega (arith, is)) (pow_pos bits) c.requires.depth i

pub write_few-requires-clause-value : goal.write_few-requires-clause-value
write_few-requires-clause-value c = λ w less.
    let s = c.args.layout.now in
    let r = c.samples_a_word.result in
    let e = c.samples_a_word.ensures.value in
    let k = c.loop-k.k in
    let end = c.min-end.result in
    let is = c.min-end.ensures in
    let xs = c.args.samples.now in
    let count : ℕ = length xs in
    let some = run_begins s r k count c.samples_a_word.ensures.value c.loop-k-test.true in
    let part = ap (λ (n : ℕ). line_words s n) (length-between xs (16 * r * k) end (omega (arith, is))) in
    let few = run_few s r k end count e some is in
    let inside = run_within s r k end count e some is in
    let place : c.args.first + (16 * k + w) ≡ c.args.first + 16 * k + w = omega arith in
    word_in_all s.deep (sample_bits s) r k w (16 * r * k) end xs e (omega arith) is (omega (arith, less, part, few))
    ∙ (c.requires.value (16 * k + w) (omega (arith, less, part, inside))
    ∙ ap (λ (n : ℕ). expected (flight_in c.args.board.now.flight) (word_at c.args.at.now n)) place)

pub loop-k-preserved : goal.loop-k-preserved
loop-k-preserved c =
    let s = c.args.layout.now in
    let r = c.samples_a_word.result in
    let k = c.loop-k.k in
    let end = c.min-end.result in
    let is = c.min-end.ensures in
    let xs = c.args.samples.now in
    let total : ℕ = line_words s (length xs) in
    let some = run_begins s r k (length xs) c.samples_a_word.ensures.value c.loop-k-test.true in
    let part = ap (λ (n : ℕ). line_words s n) (length-between xs (16 * r * k) end (omega (arith, is))) in
    let more = run_words s r k end (length xs) c.samples_a_word.ensures.value some is in
    knows_more c.args.pass.now c.loop-k.pass c.write_few.new.pass (min (16 * k) total)
    (line_words s (length (between (16 * r * k) end xs))) (min (16 * (k + 1)) total)
    c.loop-k.invariant c.write_few.ensures (omega (arith, part, more))

pub returns : goal.returns
returns c =
    let s = c.args.layout.now in
    let r = c.samples_a_word.result in
    let count : ℕ = length c.args.samples.now in
    let total : ℕ = line_words s count in
    let all : c.loop-k.k ≡ (count + (16 * r - 1)) / (16 * r) =
    omega (arith, c.loop-k-test.false, c.loop-k.auto.k-end) in
    subst
    (λ (n : ℕ). Knows c.args.pass.now c.loop-k.pass (writing_run (view c.args.pass.now) n))
    (ap (λ (k : ℕ). min (16 * k) total) all ∙ runs_all s r count c.samples_a_word.ensures.value)
    c.loop-k.invariant
