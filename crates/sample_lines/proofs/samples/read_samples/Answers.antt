use Rattle.std.proofs.Common.{◌∙◌, ◌<◌, arith, length, rules}
use Rattle.sample_lines.specs.Lines.{width_at}
use Rattle.sample_lines.proofs.Indexes.{few_words, samples_within, word_inside}
use Rattle.sample_lines.proofs.UnitShapes.{few_across}
use Rattle.sample_lines.proofs.Values.{sample_read}
use Rattle.sample_lines.proofs.samples.read_samples.Goals as goal

pub sample_index-first-requires-clause-word : goal.sample_index-first-requires-clause-word
sample_index-first-requires-clause-word c =
    let some : 0 < length c.args.out.now = search rules in
    word_inside c.args.layout.now (width_at c.args.at.now c.args.c) c.args.word (length c.args.out.now) some
    c.requires.inside

pub read_words-requires-clause-inside : goal.read_words-requires-clause-inside
read_words-requires-clause-inside c =
    let must = c.requires in
    samples_within c.args.at.now c.args.layout.now must.place must.words c.args.c c.args.line c.args.word
    (length c.args.out.now) c.sample_index-first.result must.component must.line must.inside
    c.sample_index-first.ensures.value

pub returns-clause-value : goal.returns-clause-value
returns-clause-value c = λ i below.
    let must = c.requires in
    let inside = must.inside in
    c.read_words.ensures.value i below
    ∙ sample_read c.args.board.now.flight c.args.at.now c.args.layout.now must.place must.flight
    c.sample_index-first.ensures.unit c.args.c c.args.line c.args.word c.sample_index-first.result i must.component
    must.line (omega (arith, inside, below)) c.sample_index-first.ensures.value

pub sample_index-first-requires-clause-few : goal.sample_index-first-requires-clause-few
sample_index-first-requires-clause-few c =
    let must = c.requires in
    let few = few_across c.args.board.now.flight c.args.at.now c.args.layout.now c.args.c must.place must.flight in
    let inside = must.inside in
    few_words c.args.layout.now c.args.word (length c.args.out.now) (omega (arith, inside, few))

pub read_words-requires-clause-few : goal.read_words-requires-clause-few
read_words-requires-clause-few c =
    let must = c.requires in
    let few = few_across c.args.board.now.flight c.args.at.now c.args.layout.now c.args.c must.place must.flight in
    let inside = must.inside in
    omega (arith, inside, few)
