use Rattle.std.proofs.Common.{ap, sym, ◌∙◌}
use Rattle.hv_base.specs.declared.line.Line.{Line}
use Rattle.progress_words.specs.Passes.{view}
use Rattle.line_words.specs.Places.{number_at}
use Rattle.filtered_rows.proofs.Views.{waited_none}
use Rattle.filtered_rows.proofs.waiting.wait_beside.Goals as goal

pub returns-in-B-clause-ready : goal.returns-in-B-clause-ready
returns-in-B-clause-ready g c = λ _ e.
    let is = sym c.in-B.is ∙ (ap (λ (l : Line). l.phase) c.line.ensures.value ∙ e) in absurd cc

pub returns-in-V-clause-ready : goal.returns-in-V-clause-ready
returns-in-V-clause-ready g c = λ _ e.
    let is = sym c.in-V.is ∙ (ap (λ (l : Line). l.phase) c.line.ensures.value ∙ e) in absurd cc

pub returns-in-H-clause-ready : goal.returns-in-H-clause-ready
returns-in-H-clause-ready g c = λ _ e.
    let is = sym c.in-H.is ∙ (ap (λ (l : Line). l.phase) c.line.ensures.value ∙ e) in absurd cc

pub returns-in-B-clause-waited : goal.returns-in-B-clause-waited
returns-in-B-clause-waited g c = waited_none (view c.args.pass.now) (number_at c.args.at.now)

pub returns-in-V-clause-waited : goal.returns-in-V-clause-waited
returns-in-V-clause-waited g c = waited_none (view c.args.pass.now) (number_at c.args.at.now)

pub returns-in-H-clause-waited : goal.returns-in-H-clause-waited
returns-in-H-clause-waited g c = waited_none (view c.args.pass.now) (number_at c.args.at.now)
