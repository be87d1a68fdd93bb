use Rattle.std.proofs.Common.{arith, ℕ, ◌≡◌, ◌+◌, ◌%◌, sym, ap, ◌∙◌, subst}
use Rattle.progress_words.specs.declared.view.View.{View}
use Rattle.progress_words.specs.Passes.{view}
use Rattle.progress_words.specs.Rule.{IsNextWord}
use Rattle.board_tests.specs.declared.flight.Sums.{Sums}
use Rattle.board_tests.specs.declared.flight.Meant.{Meant}
use Rattle.board_tests.specs.Passes.{meaning_in}
use Rattle.board_tests.specs.Stands.{IsUnder, IsFed}
use Rattle.board_tests.proofs.Builds.{expected_is, is_next_word}
use Rattle.board_tests.proofs.Turns.{written_under, written_fed}
use Rattle.board_tests.proofs.hand.write.Goals as goal

pub write-requires-clause-next : goal.write-requires-clause-next
write-requires-clause-next c =
    let f = c.args.flight.now in let t = c.args.turn in let at = c.requires.at in let v = view c.args.pass.now in
    let most = at.4 in let other = c.if-written-eq2.false in
    subst (λ (b : Sums). IsNextWord (meaning_in b) v c.place_of.result) (sym c.requires.own.1)
    (subst (λ (p : ℕ). IsNextWord (meaning_in f) v p) (sym c.place_of.ensures.value)
    (is_next_word f.input.items f.marks.items f.rows f.width f.some_width v t.line t.unit c.args.written at.0.row
    at.0.column (omega arith) at.0.at at.2.ready at.3 at.2.fed))

pub write-requires-clause-value : goal.write-requires-clause-value
write-requires-clause-value c =
    let f = c.args.flight.now in let t = c.args.turn in let at = c.requires.at in let j : ℕ = c.args.written in
    let most = at.4 in let other = c.if-written-eq2.false in
    let word : ℕ = (t.sum + j) % 18446744073709551616 in
    subst (λ (b : Sums). word ≡ (meaning_in b).expected c.place_of.result) (sym c.requires.own.1)
    (subst (λ (p : ℕ). word ≡ (meaning_in f).expected p) (sym c.place_of.ensures.value)
    (ap (λ (x : ℕ). (x + j) % 18446744073709551616) at.1
    ∙ sym (expected_is f.input.items f.marks.items f.rows f.width f.some_width t.line t.unit j at.0.column
    (omega arith))))

pub returns-clause-at : goal.returns-clause-at
returns-clause-at c =
    let f = c.args.flight.now in let t = c.args.turn in let at = c.requires.at in let v = view c.args.pass.now in
    let most = at.4 in let other = c.if-written-eq2.false in let now = sym c.write.ensures.1 in (
      subst (λ (u : View Meant). IsUnder f u t (c.args.written + 1)) now (written_under f v t c.args.written at.0),
      at.1,
      subst (λ (u : View Meant). IsFed f u t) now (written_fed f v t at.2),
      at.3,
      (omega arith),
    )
