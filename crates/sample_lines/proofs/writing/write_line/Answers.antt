use Rattle.std.proofs.Common.{◌≡◌, ◌∙◌, ℕ, ◌*◌, ◌<◌, ap, arith, rules, sym, subst, length}
use Rattle.sample_words.specs.Sizes.{line_words, samples_a_word}
use Rattle.sample_words.specs.Words.{has_words}
use Rattle.progress_words.specs.Passes.{Knows, view}
use Rattle.line_words.specs.Passes.{writing_run}
use Rattle.sample_lines.specs.Lines.{width_at}
use Rattle.sample_lines.proofs.Indexes.{no_words, samples_within, word_inside}
use Rattle.sample_lines.proofs.UnitShapes.{few_across}
use Rattle.sample_lines.proofs.Values.{line_fits, line_value}
use Rattle.sample_lines.proofs.WrittenWords.{nothing_written}
use Rattle.sample_lines.proofs.writing.write_line.Goals as goal

pub write_words-requires-clause-depth : goal.write_words-requires-clause-depth
write_words-requires-clause-depth c =
    line_fits c.args.board.now.flight c.args.at.now c.args.layout.now c.requires.place c.requires.flight
    c.sample_index-first.ensures.unit c.args.c c.args.line c.requires.component c.requires.line c.args.samples.now
    c.requires.whole c.requires.value

pub write_words-requires-clause-value : goal.write_words-requires-clause-value
write_words-requires-clause-value c =
    line_value c.args.board.now.flight c.args.at.now c.args.layout.now c.requires.place c.requires.flight
    c.sample_index-first.ensures.unit c.args.c c.args.line c.requires.component c.requires.line c.args.samples.now
    c.requires.whole c.requires.value c.sample_index-first.result c.sample_index-first.ensures.value

pub sample_index-first-requires-clause-word : goal.sample_index-first-requires-clause-word
sample_index-first-requires-clause-word c =
    let s = c.args.layout.now in
    let whole = c.requires.whole in
    let none : samples_a_word s * 0 ≡ 0 = omega arith in
    let some : 0 < length c.args.samples.now = search rules in
    word_inside s (width_at c.args.at.now c.args.c) 0 (length c.args.samples.now) some (omega (arith, whole, none))

pub write_words-requires-clause-inside : goal.write_words-requires-clause-inside
write_words-requires-clause-inside c =
    let must = c.requires in
    let s = c.args.layout.now in
    let whole = must.whole in
    let none : samples_a_word s * 0 ≡ 0 = omega arith in
    samples_within c.args.at.now s must.place (ap has_words must.phase) c.args.c c.args.line 0
    (length c.args.samples.now) c.sample_index-first.result must.component must.line (omega (arith, whole, none))
    c.sample_index-first.ensures.value

pub returns-then-is_empty : goal.returns-then-is_empty
returns-then-is_empty c =
    let none : length c.args.samples.now ≡ 0 = search rules in
    let width = width_at c.args.at.now c.args.c in
    nothing_written c.args.pass.now (line_words c.args.layout.now width)
    (no_words c.args.layout.now width (sym c.requires.whole ∙ none))

pub returns : goal.returns
returns c =
    subst
    (λ (n : ℕ). Knows c.args.pass.now c.write_words.new.pass
    (writing_run (view c.args.pass.now) (line_words c.args.layout.now n)))
    c.requires.whole c.write_words.ensures

pub write_words-requires-clause-few : goal.write_words-requires-clause-few
write_words-requires-clause-few c =
    let must = c.requires in
    let few = few_across c.args.board.now.flight c.args.at.now c.args.layout.now c.args.c must.place must.flight in
    let whole = must.whole in
    omega (arith, whole, few)
