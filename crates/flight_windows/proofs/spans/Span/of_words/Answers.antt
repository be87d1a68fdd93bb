use Rattle.std.proofs.Common.{rules, ap, ◌∙◌}
use mir.Val.{SFits}
use mir.Syntax.{w32}
use Rattle.spec_inter_prediction.specs.Taps.{clamped}
use Rattle.flight_windows.proofs.Plain.{plain}
use Rattle.flight_windows.proofs.spans.Span.of_words.Goals as goal

pub of_columns-requires-clause-last : goal.of_columns-requires-clause-last
of_columns-requires-clause-last c =
    let there : SFits w32 c.last_column.result = search rules in
    c.clamped-last.ensures.value
    ∙ (ap (λ z. clamped z c.args.width) (plain c.last_column.result there)
    ∙ ap (λ z. clamped z c.args.width) c.last_column.ensures)
