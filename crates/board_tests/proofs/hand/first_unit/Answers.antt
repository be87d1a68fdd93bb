use Rattle.std.proofs.Common.{rules, arith, ℕ, ◌≡◌, ◌<◌, sym, ap, ◌∙◌, subst}
use Rattle.progress_words.specs.declared.view.View.{View}
use Rattle.progress_words.specs.Passes.{view, IsSeen}
use Rattle.progress_words.specs.Views.{seen_of}
use Rattle.progress_words.proofs.Passes.{seen_now}
use Rattle.board_tests.specs.declared.flight.Sums.{Sums}
use Rattle.board_tests.specs.declared.flight.Meant.{Meant}
use Rattle.board_tests.specs.Passes.{meaning_in}
use Rattle.board_tests.proofs.Builds.{lines_is, is_seen, expected_is, first_is}
use Rattle.board_tests.proofs.hand.first_unit.Goals as goal

pub seen-requires-clause-line : goal.seen-requires-clause-line
seen-requires-clause-line c =
    let f = c.args.flight.now in let row_in = c.requires.line in
    let lines = lines_is f.input.items f.marks.items f.rows f.width f.some_width in
    subst (λ (b : Sums). c.args.line < (meaning_in b).lines) (sym c.requires.own.1) (omega arith)

pub read-first-requires-clause-seen : goal.read-first-requires-clause-seen
read-first-requires-clause-seen c =
    let f = c.args.flight.now in let l = c.args.line in let u = view c.seen.new.pass in
    let found : seen_of u l ≡ c.seen.result = ap (λ (x : View Meant). seen_of x l) c.seen.ensures.seen.1
    ∙ seen_now (view c.args.pass.now) l c.seen.result in
    let some : 0 < c.seen.result = search rules in
    subst (λ (b : Sums). IsSeen (meaning_in b) u c.place_of-place.result) (sym c.requires.own.1)
    (subst (λ (p : ℕ). IsSeen (meaning_in f) u p) (sym c.place_of-place.ensures.value)
    (is_seen f.input.items f.marks.items f.rows f.width f.some_width u l 0 0 c.requires.line f.some_width (omega arith)
    (omega arith)))

pub read-second-requires-clause-seen : goal.read-second-requires-clause-seen
read-second-requires-clause-seen c =
    let f = c.args.flight.now in let l = c.args.line in let u = view c.seen.new.pass in
    let found : seen_of u l ≡ c.seen.result = ap (λ (x : View Meant). seen_of x l) c.seen.ensures.seen.1
    ∙ seen_now (view c.args.pass.now) l c.seen.result in
    let some : 0 < c.seen.result = search rules in
    subst (λ (x : View Meant). IsSeen (meaning_in c.args.board.now.flight.sums.value) x c.place_of-beside.result)
    (sym c.read-first.ensures.same.1)
    (subst (λ (b : Sums). IsSeen (meaning_in b) u c.place_of-beside.result) (sym c.requires.own.1)
    (subst (λ (p : ℕ). IsSeen (meaning_in f) u p) (sym c.place_of-beside.ensures.value)
    (is_seen f.input.items f.marks.items f.rows f.width f.some_width u l 0 1 c.requires.line f.some_width (omega arith)
    (omega arith))))

pub returns-clause-value : goal.returns-clause-value
returns-clause-value c =
    let f = c.args.flight.now in let l = c.args.line in
    let first = subst (λ (b : Sums). c.read-first.result ≡ (meaning_in b).expected c.place_of-place.result)
    c.requires.own.1 c.read-first.ensures.value
    ∙ (ap (λ (p : ℕ). (meaning_in f).expected p) c.place_of-place.ensures.value
    ∙ (expected_is f.input.items f.marks.items f.rows f.width f.some_width l 0 0 f.some_width (omega arith)
    ∙ first_is f.input.items f.marks.items f.rows f.width f.some_width l 0)) in
    let second = subst (λ (b : Sums). c.read-second.result ≡ (meaning_in b).expected c.place_of-beside.result)
    c.requires.own.1 c.read-second.ensures.value
    ∙ (ap (λ (p : ℕ). (meaning_in f).expected p) c.place_of-beside.ensures.value
    ∙ expected_is f.input.items f.marks.items f.rows f.width f.some_width l 0 1 f.some_width (omega arith)) in
    (first, second)
