use Rattle.std.proofs.Common.{rules, arith, ◌≡◌, ℕ, ◌+◌, ◌%◌, Some, sym, ap, ◌∙◌, subst}
use Rattle.progress_words.specs.declared.view.View.{View}
use Rattle.progress_words.specs.Passes.{view}
use Rattle.progress_words.specs.Views.{seen_of}
use Rattle.progress_words.specs.Rule.{IsNext, IsNextWord}
use Rattle.board_tests.specs.declared.flight.Sums.{Sums}
use Rattle.board_tests.specs.declared.flight.Meant.{Meant}
use Rattle.board_tests.specs.Passes.{meaning_in}
use Rattle.board_tests.specs.Steps.{IsAt, IsSame, IsReady}
use Rattle.board_tests.proofs.Builds.{expected_is, is_next, is_next_word, one_more, counted_at, sized}
use Rattle.board_tests.proofs.worker.finish.Goals as goal

pub write-requires-clause-next : goal.write-requires-clause-next
write-requires-clause-next c =
    let f = c.args.flight.now in let i = c.loop-index.invariant in
    subst (λ (b : Sums). IsNextWord (meaning_in b) (view c.loop-index.pass) c.place_of.result) (sym c.requires.own.1)
    (subst (λ (p : ℕ). IsNextWord (meaning_in f) (view c.loop-index.pass) p) (sym c.place_of.ensures.value)
    (is_next_word f.input.items f.marks.items f.rows f.width f.some_width (view c.loop-index.pass) _ _
    c.loop-index.index c.requires.unit.0 c.requires.unit.1 (search rules) i.1 i.3 c.requires.before c.requires.fed))

pub write-requires-clause-value : goal.write-requires-clause-value
write-requires-clause-value c =
    let f = c.args.flight.now in let j : ℕ = c.loop-index.index in
    let word : ℕ = (c.args.sum + j) % 18446744073709551616 in
    subst (λ (b : Sums). word ≡ (meaning_in b).expected c.place_of.result) (sym c.requires.own.1)
    (subst (λ (p : ℕ). word ≡ (meaning_in f).expected p) (sym c.place_of.ensures.value)
    (ap (λ (x : ℕ). (x + j) % 18446744073709551616) c.requires.value
    ∙ sym (expected_is f.input.items f.marks.items f.rows f.width f.some_width c.args.line c.args.unit j
    c.requires.unit.1 (let a = c.loop-index-test.true in omega arith))))

pub loop-index-preserved : goal.loop-index-preserved
loop-index-preserved c =
    let f = c.args.flight.now in let i = c.loop-index.invariant in let v = view c.loop-index.pass in
    let now = sym c.write.ensures.1 in (
      (
        (
          c.write.ensures.0 ∙ i.0.0.0,
          subst (λ (u : View Meant). u.facts ≡ Some c.args.board.now.flight) now i.0.0.1,
        ),
        i.0.1,
      ),
      subst (λ (u : View Meant). IsAt u c.args.line c.args.unit (c.loop-index.index + 1)) now
          (one_more f.input.items f.marks.items f.rows f.width f.some_width v c.args.line c.args.unit
          c.loop-index.index i.1),
      subst (λ (u : View Meant). IsSame (view c.args.pass.now) u) now (record {
        none = i.2.none;
        opens = i.2.opens;
        splits = i.2.splits;
        joins = i.2.joins;
      }),
      subst (λ (u : View Meant). IsReady f.input.items f.marks.items f.rows f.width u c.args.line c.args.unit) now i.3,
    )

pub advance-requires-clause-next : goal.advance-requires-clause-next
advance-requires-clause-next c =
    let f = c.args.flight.now in let i = c.loop-index.invariant in
    subst (λ (b : Sums). IsNext (meaning_in b) (view c.loop-index.pass) c.args.line) (sym c.requires.own.1)
    (is_next f.input.items f.marks.items f.rows f.width f.some_width (view c.loop-index.pass) _ _ _ c.requires.unit.0
    c.requires.unit.1 i.1 i.3 c.requires.before c.requires.fed)

pub advance-requires-clause-written : goal.advance-requires-clause-written
advance-requires-clause-written c =
    let f = c.args.flight.now in let i = c.loop-index.invariant in
    subst (λ (b : Sums). (view c.loop-index.pass).written ≡ (meaning_in b).size c.args.line
    (seen_of (view c.loop-index.pass) c.args.line)) (sym c.requires.own.1)
    (i.1.written ∙ ((let a = c.loop-index-test.false in let b = c.loop-index.auto.index-end in
    let e : c.loop-index.index ≡ 2 = omega arith in e)
    ∙ sym (sized f.input.items f.marks.items f.rows f.width f.some_width _ _)))

pub returns-clause-at : goal.returns-clause-at
returns-clause-at c =
    let f = c.args.flight.now in let v = view c.loop-index.pass in let i = c.loop-index.invariant in
    let now = sym c.advance.ensures.seen.1 in (
      subst (λ (u : View Meant). IsAt u c.args.line (c.args.unit + 1) 0) now
          (counted_at f.input.items f.marks.items f.rows f.width f.some_width v c.args.line c.args.unit _ i.1),
      subst (λ (u : View Meant). IsSame (view c.args.pass.now) u) now (record {
        none = i.2.none;
        opens = i.2.opens;
        splits = i.2.splits;
        joins = i.2.joins;
      }),
    )
