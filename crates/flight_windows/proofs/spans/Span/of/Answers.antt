use Rattle.std.proofs.Common.{rules, ◌≡◌, ◌+◌, ◌*◌, ◌≤◌, pos, ◌+ℤ◌, ap, sym, subst, ◌∙◌, arith}
use mir.Val.{SFits}
use mir.Syntax.{w32}
use Rattle.spec_inter_prediction.specs.Taps.{clamped}
use Rattle.sample_words.specs.declared.sizes.FlightSizes.{FlightSizes}
use Rattle.sample_words.specs.Sizes.{samples_a_word}
use Rattle.flight_windows.specs.Lines.{width_in}
use Rattle.flight_windows.proofs.Plain.{plain}
use Rattle.flight_windows.proofs.Sides.{few_side, some_side}
use Rattle.flight_windows.proofs.spans.Span.of.Goals as goal

pub of_words-requires-clause-width : goal.of_words-requires-clause-width
of_words-requires-clause-width c =
    let sizes = c.sizes-sizes.ensures.there in
    let some = some_side c.args.c c.sizes-sizes.result.width sizes.some_width in
    let few = few_side c.args.c c.sizes-sizes.result.width 8192 sizes.width in
    let e = c.component_side-width.ensures in
    (omega (arith, some, e), omega (arith, few, e))

pub returns-clause-span : goal.returns-clause-span
returns-clause-span c =
    let s : FlightSizes = c.args.layout.now in
    let a = c.args in
    let sizes : c.sizes-sizes.result ≡ s = c.sizes-sizes.ensures.value in
    let width : c.component_side-width.result ≡ width_in s a.c =
    c.component_side-width.ensures ∙ ap (λ (t : FlightSizes). width_in t a.c) sizes in
    let per : c.samples_of_word-per.result ≡ samples_a_word s = c.samples_of_word-per.ensures.value in
    let fx : SFits w32 a.column = search rules in
    let span = c.of_words.result in
    let column : span.column ≡ a.column = c.of_words.ensures.column ∙ plain a.column fx in
    record {
      some = c.of_words.ensures.some;
      few = c.of_words.ensures.few;
      inside = subst (λ n. n * span.word + span.count ≤ width_in s a.c) per
          (subst (λ n. c.samples_of_word-per.result * span.word + span.count ≤ n) width c.of_words.ensures.inside);
      place = c.of_words.ensures.place;
      held = λ k less.
          (λ i. sym per i * span.word + clamped (span.left +ℤ pos k) span.count)
          ∙ (c.of_words.ensures.held k less
          ∙ ((λ i. clamped (plain a.column fx i +ℤ pos k) (width i))
          ∙ (λ i. clamped (sym column i +ℤ pos k) (width_in s a.c))));
    }
