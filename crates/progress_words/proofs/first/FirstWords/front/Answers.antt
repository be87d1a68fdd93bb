use Rattle.std.proofs.Common.{arith, ℕ, List, get_or, take, ap, ◌∙◌, get_or-take}
use Rattle.progress_words.proofs.Zeros.{cut_zero}
use Rattle.progress_words.proofs.first.FirstWords.front.Goals as goal

pub returns-clause-zeros : goal.returns-clause-zeros
returns-clause-zeros c i ne =
    let w = c.args.self.now in
    ap (λ (xs : List ℕ). get_or (take c.args.count xs) i 0) c.as_slice.ensures.value
    ∙ cut_zero c.args.count w.words.items i (w.zeros i ne)

pub returns-clause-fault : goal.returns-clause-fault
returns-clause-fault c =
    let w = c.args.self.now in
    ap (λ (xs : List ℕ). get_or (take c.args.count xs) w.fault 0) c.as_slice.ensures.value
    ∙ get_or-take c.args.count w.words.items w.fault 0 c.requires.fault
