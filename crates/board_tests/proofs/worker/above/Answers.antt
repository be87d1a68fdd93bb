use Rattle.std.proofs.Common.{rules, arith, ◌≡◌, ℕ, ◌-◌, sym, ap, ◌∙◌, subst}
use Rattle.progress_words.specs.Passes.{view, IsSeen}
use Rattle.board_tests.specs.declared.flight.Sums.{Sums}
use Rattle.board_tests.specs.Passes.{meaning_in}
use Rattle.board_tests.specs.Sums.{value}
use Rattle.board_tests.proofs.Builds.{expected_is, is_seen, seen_above, above_is, first_is}
use Rattle.board_tests.proofs.worker.above.Goals as goal

pub read-requires-clause-seen : goal.read-requires-clause-seen
read-requires-clause-seen c =
    let f = c.args.flight.now in let row_in = c.requires.unit.0 in let unit_in = c.requires.unit.1 in
    let some = f.some_width in let v = view c.args.pass.now in
    let enough = seen_above f.input.items f.marks.items f.rows f.width f.some_width v c.args.line c.args.unit
    (search rules) c.requires.ready in
    subst (λ (b : Sums). IsSeen (meaning_in b) v c.place_of-place.result) (sym c.requires.own.1)
    (subst (λ (p : ℕ). IsSeen (meaning_in f) v p) (sym c.place_of-place.ensures.value)
    (is_seen f.input.items f.marks.items f.rows f.width f.some_width v (c.args.line - 1) _ 0 (omega arith)
    (search rules) (omega arith) (let col = c.min-column.ensures in omega arith)))

pub returns-clause-value : goal.returns-clause-value
returns-clause-value c =
    let f = c.args.flight.now in
    let found = subst (λ (b : Sums). c.read.result ≡ (meaning_in b).expected c.place_of-place.result) c.requires.own.1
    c.read.ensures.value in
    let here = ap (λ (p : ℕ). (meaning_in f).expected p) c.place_of-place.ensures.value in
    found ∙ (here ∙ (expected_is f.input.items f.marks.items f.rows f.width f.some_width (c.args.line - 1)
    c.min-column.result 0 (search rules) (omega arith)
    ∙ (first_is f.input.items f.marks.items f.rows f.width f.some_width (c.args.line - 1) c.min-column.result
    ∙ (ap (λ (x : ℕ). value f.input.items f.width (c.args.line - 1) x) c.min-column.ensures
    ∙ sym (above_is f.input.items f.marks.items f.rows f.width f.some_width c.args.line c.args.unit (search rules))))))
