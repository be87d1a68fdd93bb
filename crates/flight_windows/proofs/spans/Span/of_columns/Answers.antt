use Rattle.std.proofs.Common.{rules, ◌≡◌, ◌+◌, ◌-◌, ◌*◌, ◌/◌, ℕ, pos, negsuc, ◌+ℤ◌, ◌-ℤ◌, ◌≤ℤ◌}
use Rattle.std.proofs.Common.{ap, sym, subst, ◌∙◌, arith}
use mir.Val.{SFits, to_z, of_z}
use mir.Syntax.{w32}
use Rattle.spec_inter_prediction.specs.Taps.{clamped}
use Rattle.flight_windows.proofs.Covering.{left_fits, span_held, span_sizes}
use Rattle.flight_windows.proofs.Plain.{plain}
use Rattle.flight_windows.proofs.spans.Span.of_columns.Goals as goal

pub overflow_sub-result : goal.overflow_sub-result
overflow_sub-result c =
    let low = (span_sizes c.args.column c.args.count c.args.width c.args.per c.args.first c.args.last c.requires.some
    c.requires.few c.requires.samples.0 c.requires.samples.1 c.requires.first c.requires.last).0 in
    omega (arith, low)

pub left_of-requires-clause-least : goal.left_of-requires-clause-least
left_of-requires-clause-least c =
    let sizes = span_sizes c.args.column c.args.count c.args.width c.args.per c.args.first c.args.last c.requires.some
    c.requires.few c.requires.samples.0 c.requires.samples.1 c.requires.first c.requires.last in
    let fits : SFits w32 c.args.column = search rules in
    let least : negsuc 2147483647 ≤ℤ c.args.column = search rules in
    let skipped : ℕ = c.args.first / c.args.per * c.args.per in
    subst (λ z. negsuc 2147483647 ≤ℤ (z -ℤ pos skipped)) (sym (plain c.args.column fits))
    (left_fits c.args.column c.args.width skipped sizes.2 least c.requires.place).0

pub left_of-requires-clause-most : goal.left_of-requires-clause-most
left_of-requires-clause-most c =
    let sizes = span_sizes c.args.column c.args.count c.args.width c.args.per c.args.first c.args.last c.requires.some
    c.requires.few c.requires.samples.0 c.requires.samples.1 c.requires.first c.requires.last in
    let fits : SFits w32 c.args.column = search rules in
    let least : negsuc 2147483647 ≤ℤ c.args.column = search rules in
    let skipped : ℕ = c.args.first / c.args.per * c.args.per in
    subst (λ z. (z -ℤ pos skipped) ≤ℤ pos 1073741824) (sym (plain c.args.column fits))
    (left_fits c.args.column c.args.width skipped sizes.2 least c.requires.place).1

pub left_of-requires-clause-few : goal.left_of-requires-clause-few
left_of-requires-clause-few c =
    let low = (span_sizes c.args.column c.args.count c.args.width c.args.per c.args.first c.args.last c.requires.some
    c.requires.few c.requires.samples.0 c.requires.samples.1 c.requires.first c.requires.last).0 in
    let inside = c.requires.inside in
    omega (arith, low, inside)

pub returns-clause-some : goal.returns-clause-some
returns-clause-some c =
    let low = (span_sizes c.args.column c.args.count c.args.width c.args.per c.args.first c.args.last c.requires.some
    c.requires.few c.requires.samples.0 c.requires.samples.1 c.requires.first c.requires.last).0 in
    omega (arith, low)

pub returns-clause-few : goal.returns-clause-few
returns-clause-few c =
    (span_sizes c.args.column c.args.count c.args.width c.args.per c.args.first c.args.last c.requires.some
    c.requires.few c.requires.samples.0 c.requires.samples.1 c.requires.first c.requires.last).1

pub returns-clause-inside : goal.returns-clause-inside
returns-clause-inside c =
    let low = (span_sizes c.args.column c.args.count c.args.width c.args.per c.args.first c.args.last c.requires.some
    c.requires.few c.requires.samples.0 c.requires.samples.1 c.requires.first c.requires.last).0 in
    let inside = c.requires.inside in
    let turned : c.args.per * (c.args.first / c.args.per) ≡ c.args.first / c.args.per * c.args.per = grind arith in
    omega (arith, low, inside, turned)

pub returns-clause-place : goal.returns-clause-place
returns-clause-place c =
    let sizes = span_sizes c.args.column c.args.count c.args.width c.args.per c.args.first c.args.last c.requires.some
    c.requires.few c.requires.samples.0 c.requires.samples.1 c.requires.first c.requires.last in
    let fits : SFits w32 c.args.column = search rules in
    let there : SFits w32 c.left_of.result = search rules in
    let least : negsuc 2147483647 ≤ℤ c.args.column = search rules in
    let skipped : ℕ = c.args.first / c.args.per * c.args.per in
    let left : to_z w32 (of_z w32 c.left_of.result) ≡ c.args.column -ℤ pos skipped =
    plain c.left_of.result there ∙ (c.left_of.ensures ∙ ap (λ z. z -ℤ pos skipped) (plain c.args.column fits)) in
    subst (λ z. z ≤ℤ pos 1073741824) (sym left)
    (left_fits c.args.column c.args.width skipped sizes.2 least c.requires.place).1

pub returns-clause-held : goal.returns-clause-held
returns-clause-held c = λ k less.
    let sizes = span_sizes c.args.column c.args.count c.args.width c.args.per c.args.first c.args.last c.requires.some
    c.requires.few c.requires.samples.0 c.requires.samples.1 c.requires.first c.requires.last in
    let fits : SFits w32 c.args.column = search rules in
    let there : SFits w32 c.left_of.result = search rules in
    let skipped : ℕ = c.args.first / c.args.per * c.args.per in
    let left : to_z w32 (of_z w32 c.left_of.result) ≡ c.args.column -ℤ pos skipped =
    plain c.left_of.result there ∙ (c.left_of.ensures ∙ ap (λ z. z -ℤ pos skipped) (plain c.args.column fits)) in
    let turned : c.args.per * (c.args.first / c.args.per) ≡ skipped = grind arith in
    let last = c.requires.last in
    (λ i. turned i + clamped (left i +ℤ pos k) (last i + 1 - skipped))
    ∙ span_held c.args.column c.args.count c.args.width skipped k less sizes.2
