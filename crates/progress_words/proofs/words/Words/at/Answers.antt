use Rattle.std.proofs.Common.{ℕ, List, get_or, sym, ap, ◌∙◌}
use Rattle.progress_words.proofs.Counts.{at_read}
use Rattle.progress_words.proofs.words.Words.at.Goals as goal

pub returns : goal.returns
returns c = sym (ap (λ (xs : List ℕ). get_or xs c.args.word 0) (sym c.self.view_is)
    ∙ at_read _ c.args.word c.word.result c.word.ensures)
