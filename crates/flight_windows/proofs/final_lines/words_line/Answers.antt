use Rattle.std.proofs.Common.{rules, ◌≡◌, ◌+◌, ◌*◌, ◌<◌, ℕ, min, pos, ◌+ℤ◌, ap, sym, ◌∙◌, subst, length}
use Rattle.std.proofs.Common.{slice_index, arith}
use Rattle.std.proofs.lemmas.Int.{to_z-of_z}
use mir.Val.{SFits, to_z, of_z}
use mir.Syntax.{w32}
use Rattle.inter_pred.specs.Passes.{at}
use Rattle.sample_words.specs.Sizes.{samples_a_word}
use Rattle.sample_lines.specs.SpecFlights.{PlannedFlight}
use Rattle.spec_inter_prediction.specs.Taps.{clamped}
use Rattle.sample_lines.specs.FactsOfFlights.{flight_in}
use Rattle.sample_lines.specs.Lines.{sample_of}
use Rattle.flight_windows.proofs.Covering.{held_among}
use Rattle.flight_windows.proofs.final_lines.words_line.Goals as goal

pub returns-clause-value : goal.returns-clause-value
returns-clause-value c = λ k lt.
    let span = c.args.span in
    let f : PlannedFlight = flight_in c.args.board.now.flight in
    let there : ℕ → ℕ =
    λ i. sample_of f c.args.unit.now c.args.c (samples_a_word c.args.layout.now * span.word + i) c.args.line in
    let fits : SFits w32 span.left = search rules in
    let plain : to_z w32 (of_z w32 span.left) ≡ span.left = grind (arith, to_z-of_z) in
    let long = c.read_samples.ensures.count ∙ c.requires.samples in
    let each : (i : ℕ) → i < span.count → slice_index c.read_samples.new.out i ≡ there i =
    λ i less. c.read_samples.ensures.value i (subst (λ n. i < n) (sym c.requires.samples) less) in
    c.held_line.ensures k lt
    ∙ (ap (λ z. min (at c.read_samples.new.out (clamped (z +ℤ pos k) (length c.read_samples.new.out))) c.args.greatest)
    plain
    ∙ ap (λ n. min n c.args.greatest)
    (held_among c.read_samples.new.out (span.left +ℤ pos k) span.count there c.requires.some long each))
