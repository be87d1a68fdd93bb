use Rattle.std.proofs.Common.{◌≡◌, ◌∙◌, ℕ, ◌+◌, ◌-◌, ◌*◌, ◌<◌, ◌≤◌, arith, ap, sym, subst, length}
use Rattle.std.proofs.lemmas.List.Edits.{length-between}
use Rattle.sample_words.specs.Sizes.{samples_a_word}
use Rattle.progress_words.specs.declared.view.View.{View}
use Rattle.progress_words.specs.Views.{seen_of}
use Rattle.line_words.specs.Places.{number_at}
use Rattle.line_words.proofs.Words.{knows_as_much}
use Rattle.flight_facts.specs.declared.flight_facts.FlightFacts.{FlightFacts}
use Rattle.flight_facts.specs.Facts.{flight_in}
use Rattle.sample_lines.specs.Lines.{sample_of, width_at}
use Rattle.sample_lines.proofs.Parts.{line_before, line_kept, line_length, line_told}
use Rattle.sample_lines.proofs.laying.lay_lines.Goals as goal

pub read_samples-requires-clause-seen : goal.read_samples-requires-clause-seen
read_samples-requires-clause-seen c =
    let at = c.args.at.now in
    subst (λ (v : View FlightFacts). at.unit < seen_of v (number_at at)) (sym c.loop-y.invariant.knows.1)
    c.requires.seen

pub loop-y-preserved : goal.loop-y-preserved
loop-y-preserved c =
    let p = c.args.lines in
    let n = samples_a_word c.args.layout.now in
    let f = flight_in c.args.board.now.flight in
    let y = c.loop-y.y in
    let i = c.loop-y.invariant in
    let xs = c.loop-y.out in
    let ys = c.read_samples.new.out in
    let width : ℕ = width_at c.args.at.now p.c in
    let a : ℕ = p.stride * y + p.left in
    let end : ℕ = a + c.width_at-width.result in
    let is = c.width_at-width.ensures.value in
    let same = i.count in
    let whole = c.requires.room in
    let inside = c.requires.columns in
    let before = line_before p.stride y p.count c.loop-y-test.true in
    let room : p.stride * y + p.stride ≤ length xs = omega (arith, before, same, whole) in
    let size : end - a ≡ width = omega (arith, is) in
    let count : length ys ≡ width =
    c.read_samples.ensures.count ∙ (length-between xs a end (omega (arith, room, inside, is)) ∙ size) in
    let at : a ≡ p.stride * y + p.left = omega arith in
    record {
      count = line_length p.stride p.left width y a (end - a) xs ys at size inside room count ∙ same;
      knows = knows_as_much c.args.pass.now c.loop-y.pass c.read_samples.new.pass i.knows c.read_samples.ensures.same;
      told = line_told p.stride p.left width y a (end - a) xs ys at size inside room count
          (λ x j. sample_of f c.args.at.now p.c x (p.first + j)) i.told
          (λ x lt.
          c.read_samples.ensures.value x (let l = c.read_samples.ensures.count in omega (arith, lt, count, l))
          ∙ ap (λ (m : ℕ). sample_of f c.args.at.now p.c m (p.first + y)) (let e : n * 0 + x ≡ x = omega arith in e));
      kept = λ x j column.
          line_kept p.stride p.left width y a (end - a) xs ys at size inside room count x j column ∙ i.kept x j column;
    }
